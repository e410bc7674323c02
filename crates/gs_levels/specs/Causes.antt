-- When a refusal comes.
use Rattle.std.specs.Prelude.{List}
use Rattle.gs_levels.specs.declared.edges.Edge.{Edge}
use Rattle.gs_levels.specs.declared.find.LevelErr.{LevelErr}
use Rattle.gs_levels.specs.declared.find.LevelErr.TheVariants as errors
use Rattle.gs_levels.specs.Levels.{IsCycle}

-- the cycle that a refusal carries is one of the graph
abbrev pub HasCause : List Edge → LevelErr → Type 0
HasCause edges (errors.Loop cycle) = IsCycle edges cycle
HasCause edges errors.Mem = Unit {0}
