-- The runs of channels that a branch has, as the channels that a call passes.
use Rattle.std.proofs.Common.{◌≡◌, ◌∙◌, ℕ, ◌≤◌, ℤ, Bool, true, false, cond, Option, Some, None, refl, ap}
use Rattle.std.proofs.Common.{unwrap_or, arith}
use Rattle.module_format.specs.declared.rows.EndKind.{EndKind}
use Rattle.module_format.specs.declared.rows.EndKind.TheVariants as ends
use Rattle.module_format.specs.declared.rows.Direction.{Direction}
use Rattle.module_format.specs.Contents.{Contents}
use Rattle.certificate.specs.declared.runs.ChannelRun.{ChannelRun}
use Rattle.certificate.specs.Runs.{IsRun, held_from}
use Rattle.rulings.specs.Channels.{is_length, has_length_further}
use Rattle.call_rules.specs.Callings.{HasAll, HasRun}

-- what is there if a test is passed is there, so it is passed
passed : (b : Bool) (x y : Option ℕ) → cond b (Some x) None ≡ Some y → (b ≡ true) × (x ≡ y)
passed true x y e = (refl, ap (λ o. unwrap_or o x) e)
passed false x y e = absurd (cc)

pub run_is : (m : Contents) (context : ℕ) (word : ℤ) (direction : Direction) (run : ChannelRun)
    → IsRun (held_from m context direction) word run → HasRun m context (ends.FrameWord word) direction run
run_is m context word direction run is = record {
  ends = record { each = λ i low. (passed _ _ _ (is.each i low)).0 };
  lengths = λ i low. (passed _ _ _ (is.each i low)).1;
}

-- the first channels of a run have its messages
pub run_lengths : (m : Contents) (context : ℕ) (first : EndKind) (direction : Direction) (run : ChannelRun)
    (count len : ℕ) → HasRun m context first direction run → count ≤ run.count → run.length ≡ Some len
    → is_length len (Some len) ≡ true → HasAll count (has_length_further m context first len)
run_lengths m context first direction run count len has few is same = record {
  each = λ i low. ap (is_length len) (has.lengths i (omega arith) ∙ is) ∙ same;
}

pub run_ends : {test : ℕ → Bool} (count more : ℕ) → HasAll more test → count ≤ more → HasAll count test
run_ends count more has few = record { each = λ i low. has.each i (omega arith) }
