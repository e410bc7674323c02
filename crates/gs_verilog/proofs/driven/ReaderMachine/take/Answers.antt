use Rattle.std.proofs.Common.{arith}
use Rattle.gs_verilog.specs.Index.{state_of}
use Rattle.gs_verilog.proofs.Reading.{read_few}
use Rattle.gs_verilog.proofs.driven.ReaderMachine.take.Goals as goal

pub enter-requires-clause-room : goal.enter-requires-clause-room
enter-requires-clause-room c = omega (arith, (read_few (state_of c.args.self.now) c.requires.read).nets)

pub enter-requires-clause-few : goal.enter-requires-clause-few
enter-requires-clause-few c = omega (arith, (read_few (state_of c.args.self.now) c.requires.read).insts)
