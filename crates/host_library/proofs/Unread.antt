-- Bytes that are read as no module, as the failure of a call.
use Rattle.std.proofs.Common.{◌≡◌, ◌≢◌, ◌⊎◌, ◌∙◌, sym, ap, inl, inr, ℕ, Bool, true, false, if◌then◌else◌, refl, List}
use Rattle.std.proofs.Common.{Result, Ok, Err}
use Rattle.std.specs.Prelude.{◌==◌, IfErr, IsErrAnd, MatchResult}
use Rattle.module_format.specs.declared.fault.FormatFault.{FormatFault}
use Rattle.module_format.specs.declared.fault.TheConstants.{MEMORY}
use Rattle.module_format.specs.Contents.{Contents}
use Rattle.module_format.specs.Keeping.{Format}
use Rattle.module_format.specs.Reading.{out_of_memory}
use Rattle.module_format.specs.ReadingFile.{read_contents}
use Rattle.host_library.specs.declared.failure.HostFailure.{HostFailure}
use Rattle.host_library.specs.declared.failure.HostFailure.TheVariants.{NoFile, Memory}
use Rattle.host_library.specs.Failures.{Withholds, failure_of_file}

module _ (bytes : List ℕ) (is_no_event : ℕ → Type 0) where
  -- the first fault, whether or not its number is that of memory
  first : (fault : FormatFault) → read_contents bytes ≡ Err fault
      → (fault ≢ out_of_memory → (m : Contents) → Format bytes m → ⊥)
      → (is_memory : Bool) → (fault.number == MEMORY) ≡ is_memory
      → Withholds bytes is_no_event (if is_memory then Memory else NoFile fault)
  first fault is none true test = tt
  first fault is none false test = record {
    first = is;
    none = none (λ short. let clash : true ≡ false =
        sym (ap (λ (f : FormatFault). f.number == MEMORY) short) ∙ test in absurd (cc));
  }

  withheld : (fault : FormatFault) → (fault ≡ out_of_memory) ⊎ (read_contents bytes ≡ Err fault)
      → (fault ≢ out_of_memory → (m : Contents) → Format bytes m → ⊥)
      → Withholds bytes is_no_event (failure_of_file fault)
  withheld fault (inl short) none = rw short tt
  withheld fault (inr is) none = first fault is none (fault.number == MEMORY) refl

  -- the answer of a call whose bytes are not read
  pub unread : {A : Type 0} (holds : A → Type 0) (fault : FormatFault)
      → (fault ≡ out_of_memory) ⊎ (read_contents bytes ≡ Err fault)
      → (fault ≢ out_of_memory → (m : Contents) → Format bytes m → ⊥)
      → (result : Result A HostFailure) → IsErrAnd result (λ failure. failure ≡ failure_of_file fault)
      → MatchResult result holds (Withholds bytes is_no_event)
  unread holds fault why none (Ok x) is = absurd is
  unread holds fault why none (Err failure) is = rw is (withheld fault why none)

-- the file of a module is not read only where memory ran out
pub unread_for_memory : {A : Type 0} (holds : HostFailure → Type 0) → holds Memory → (fault : FormatFault)
    → fault ≡ out_of_memory → (result : Result A HostFailure)
    → IsErrAnd result (λ failure. failure ≡ failure_of_file fault) → IfErr result holds
unread_for_memory holds memory fault short (Ok x) is = absurd is
unread_for_memory holds memory fault short (Err failure) is = rw is (rw short memory)

-- a failure that says that memory ran out says no more
pub memory_alone : {A : Type 0} (failure : HostFailure) → failure ≡ Memory → (result : Result A HostFailure)
    → IsErrAnd result (λ told. told ≡ failure) → IfErr result (λ told. told ≡ Memory)
memory_alone failure memory (Ok x) is = absurd is
memory_alone failure memory (Err told) is = is ∙ memory
