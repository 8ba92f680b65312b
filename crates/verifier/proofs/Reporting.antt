-- What is reported of a module where the pass stops.
use Rattle.std.proofs.Common.{refl, inl, inr}
use Rattle.module_format.specs.Contents.{Contents}
use Rattle.module_format.specs.Keeping.{Keeps}
use Rattle.verifier.specs.declared.stop.Stop.{Stop}
use Rattle.verifier.specs.declared.stop.Stop.TheVariants as stops
use Rattle.verifier.specs.Reports.{Reports}
use Rattle.verifier.specs.Judging.{StopsBy, refusal_of}
use Rattle.verifier.proofs.Judging.{refused_is_refused}
use Rattle.verifier.proofs.ValidContents.{spans}

pub reports : (m : Contents) → Keeps m → (stop : Stop) → StopsBy m stop → Reports m (refusal_of stop)
reports m k (stops.Broken breach) told = inr (breach.rule, refl, refused_is_refused m (spans m k) breach told)
reports m k stops.Memory told = inl refl
