use Rattle.std.proofs.Common.{refl}
use Rattle.gs_shelf.proofs.HostLaws.{still_of, counted_of, cause_of}
use Rattle.gs_shelf.proofs.host.HostShelfShelf.TheImpl.Goals as goal

pub fetch-tells : goal.fetch-tells
fetch-tells g c = record {
  fits = c.ensures.fits;
  bytes = λ no. absurd no;
  stay = λ _. refl;
  said = refl;
  later = λ _ _. c.ensures.later;
  still = λ ne _ _. c.ensures.still ne;
  cause = cause_of _ _ c.result c.ensures.counted;
}

pub store-tells : goal.store-tells
store-tells g c = record {
  ok = λ no. absurd no;
  err = λ no. absurd no;
  others = λ _ _. refl;
  said = refl;
  later = λ _ _. c.ensures.later;
  still = λ ne _ _. c.ensures.still ne;
  cause = cause_of _ _ c.result c.ensures.counted;
}

pub say-tells : goal.say-tells
say-tells g c = record {
  ok = λ no. absurd no;
  err = λ no. absurd no;
  memory = λ _. refl;
  stay = λ _. refl;
  later = λ _ _. c.ensures.later;
  still = λ ne _ _. still_of _ _ c.result c.ensures.failed c.ensures.still ne;
  cause = cause_of _ _ c.result (counted_of _ _ c.result c.ensures.counted);
}
