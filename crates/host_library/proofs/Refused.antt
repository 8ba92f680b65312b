-- What the verifier refuses, as the failure of a call.
use Rattle.std.proofs.Common.{◌≡◌, inl, inr, ℕ, Bool, true, false, if◌then◌else◌, List, Result, Ok, Err}
use Rattle.std.specs.Prelude.{◌==◌, IfErr, IsErrAnd, MatchResult}
use Rattle.module_format.specs.Contents.{Contents}
use Rattle.module_format.specs.Keeping.{Format}
use Rattle.states.specs.declared.rule.Rule.{Rule}
use Rattle.states.specs.declared.rule.TheConstants.{MEMORY}
use Rattle.states.specs.Numbers.{number_of}
use Rattle.certified_worlds.specs.Certified.{IsCertified, IsRefused}
use Rattle.verifier.specs.declared.Refusal.{Refusal}
use Rattle.verifier.specs.Reports.{Reports}
use Rattle.host_library.specs.declared.failure.HostFailure.{HostFailure}
use Rattle.host_library.specs.declared.failure.HostFailure.TheVariants.{Uncertified, Memory}
use Rattle.host_library.specs.Failures.{Withholds, failure_of_module}

module _ (bytes : List ℕ) (m : Contents) (is_no_event : ℕ → Type 0) (format : Format bytes m) where
  -- a rule that is broken, whether or not its number is that of memory
  broken : (refusal : Refusal) (rule : Rule) → refusal.number ≡ number_of rule → IsRefused m rule refusal.offset
      → (is_memory : Bool) → Withholds bytes is_no_event (if is_memory then Memory else Uncertified refusal)
  broken refusal rule numbered refused true = tt
  broken refusal rule numbered refused false =
      record { contents = m; format = format; rule = rule; numbered = numbered; refused = refused }

  withheld : (refusal : Refusal) → Reports m refusal → Withholds bytes is_no_event (failure_of_module refusal)
  withheld refusal (inl short) = rw short tt
  withheld refusal (inr why) = broken refusal why.0 why.1 why.2 (refusal.number == MEMORY)

  -- the answer of a call whose module the verifier refuses
  pub refused : {A : Type 0} (holds : A → Type 0) (refusal : Refusal) → Reports m refusal
      → (result : Result A HostFailure) → IsErrAnd result (λ failure. failure ≡ failure_of_module refusal)
      → MatchResult result holds (Withholds bytes is_no_event)
  refused holds refusal why (Ok x) is = absurd is
  refused holds refusal why (Err failure) is = rw is (withheld refusal why)

-- a certified module is refused only where memory ran out
pub only_memory : {A : Type 0} (holds : HostFailure → Type 0) → holds Memory → (m : Contents) → IsCertified m
    → ((m : Contents) (rule : Rule) (at : ℕ) → IsCertified m → IsRefused m rule at → ⊥) → (refusal : Refusal)
    → Reports m refusal → (result : Result A HostFailure)
    → IsErrAnd result (λ failure. failure ≡ failure_of_module refusal) → IfErr result holds
only_memory holds memory m certified never refusal why (Ok x) is = absurd is
only_memory holds memory m certified never refusal (inl short) (Err failure) is = rw is (rw short memory)
only_memory holds memory m certified never refusal (inr why) (Err failure) is =
    absurd (never m why.0 refusal.offset certified why.2)
