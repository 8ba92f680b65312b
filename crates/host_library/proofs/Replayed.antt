-- What a replay of a certified module answers, said of the bytes of its file.
use Rattle.std.proofs.Common.{ℕ, List, Result, Ok, Err}
use Rattle.std.specs.Prelude.{IfErr, MatchResult}
use Rattle.module_format.specs.Contents.{Contents}
use Rattle.module_format.specs.Keeping.{Format}
use Rattle.certified_worlds.specs.Certified.{IsCertified}
use Rattle.verifier.specs.Headline.{RunsWell}
use Rattle.host_library.specs.declared.failure.HostFailure.{HostFailure}
use Rattle.host_library.specs.declared.failure.HostFailure.TheVariants.{NoFile, Uncertified, NoEvent, Memory}
use Rattle.host_library.specs.Failures.{Withholds, IsOfEvents, IsNoRefusal}
use Rattle.host_library.specs.Files.{IsCertifiedFile}

module _ {A : Type 0} (has : Contents → A → Type 0) (is_none : ℕ → Type 0) where
  module _ (bytes : List ℕ) (m : Contents) (format : Format bytes m) (certified : IsCertified m)
      (runs_well : RunsWell m) where
    of_events : (failure : HostFailure) → IsOfEvents is_none failure
        → Withholds bytes (λ index. IsCertifiedFile bytes (λ c. is_none index)) failure
    of_events (NoFile fault) why = absurd why
    of_events (Uncertified refusal) why = absurd why
    of_events (NoEvent index) why =
        record { contents = m; format = format; certified = certified; runs_well = runs_well; holds = why }
    of_events Memory why = tt

    pub answered : (result : Result A HostFailure) → MatchResult result (has m) (IsOfEvents is_none)
        → MatchResult result (λ x. IsCertifiedFile bytes (λ c. has c x))
        (Withholds bytes (λ index. IsCertifiedFile bytes (λ c. is_none index)))
    answered (Ok x) holds =
        record { contents = m; format = format; certified = certified; runs_well = runs_well; holds = holds }
    answered (Err failure) why = of_events failure why

  no_refusal_of : (failure : HostFailure) → IsOfEvents is_none failure → IsNoRefusal failure
  no_refusal_of (NoFile fault) why = absurd why
  no_refusal_of (Uncertified refusal) why = absurd why
  no_refusal_of (NoEvent index) why = tt
  no_refusal_of Memory why = tt

  -- neither the file nor the module is refused there
  pub no_refusal : (m : Contents) (result : Result A HostFailure) → MatchResult result (has m) (IsOfEvents is_none)
      → IfErr result IsNoRefusal
  no_refusal m (Ok x) holds = tt
  no_refusal m (Err failure) why = no_refusal_of failure why
