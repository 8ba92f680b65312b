-- The body of a replicator is weighed turn by turn, until the sum is above the greatest size.
use Rattle.std.proofs.Common.{◌≡◌, ℕ, zero, suc, ◌+◌, ◌-◌, ◌<◌, ◌≤◌, Bool, true, false, List, [], ◌∷◌, Option, None}
use Rattle.std.proofs.Common.{ℤ, sym, ap, arith, ◌∙◌, zero-add, add-one}
use Rattle.occam_parser.specs.Lines.{Replicator}
use Rattle.occam_parser.specs.Blocks.{Body, One}
use Rattle.scalar_ranges.specs.Entries.{Entry}
use Rattle.program_uses.specs.declared.indices.Turns.{Turns}
use Rattle.program_uses.specs.Declaring.{add}
use Rattle.program_uses.specs.Indices.{is_sequence, turns_of, index_meaning, in_turns}
use Rattle.program_uses.specs.Processes.{in_turn}
use Rattle.program_uses.specs.Signatures.{Parameter}
use Rattle.usage_checks.specs.declared.weighing.Weight.{Weight}
use Rattle.program_sizes.specs.LineSizes.{size_of_replicator, greatest_size}
use Rattle.usage_checks.specs.Sizes.{Measured, plain, total, with_turns, measures_of_body, measures_of_component}
use Rattle.usage_checks.specs.Weighing.{Sums, Weighs, measures_of_one, measures_in_turns}
use Rattle.usage_checks.proofs.PartsWeighed.{total_both, sums_both, sums_as}

-- ---- turns

abbrev pub turn_measures : List (List Parameter) → List Entry → Replicator → Body → Bool → Option ℤ → ℕ
    → List Measured
turn_measures signatures es r b sequential first n = measures_of_one signatures (in_turn r sequential first n es) b

-- all turns, by what the program finds of them
pub all_turns : (signatures : List (List Parameter)) (es : List Entry) (r : Replicator) (b : Body) (sequential : Bool)
    (turns : Turns) → sequential ≡ is_sequence b → turns ≡ turns_of true es sequential r
    → total (in_turns (turn_measures signatures es r b sequential turns.first) turns.count)
    ≡ total (measures_in_turns signatures es r b)
all_turns signatures es r b sequential turns is found =
    let all = found ∙ (λ i. turns_of true es (is i) r) in
    λ i. total (in_turns (turn_measures signatures es r b (is i) (all i).first) (all i).count)

pub turns_next : (f : ℕ → List Measured) (n : ℕ) {s t w : Weight} → Sums s t (total (in_turns f n))
    → Weighs t w (f n) → Sums s w (total (in_turns f (n + 1)))
turns_next f n a b =
    let next : total (in_turns f n) + total (f n) ≡ total (in_turns f (n + 1)) =
    sym (total_both (in_turns f n) (f n)) ∙ ap (λ n. total (in_turns f n)) (sym (add-one n)) in
    sums_as next (sums_both (total (in_turns f n)) (total (f n)) a (record { complete = b.complete; sum = b.sum }))

more_turns : (f : ℕ → List Measured) (m k : ℕ) → total (in_turns f m) ≤ total (in_turns f (k + m))
more_turns f m zero = omega (arith, ap (λ n. total (in_turns f n)) (zero-add m))
more_turns f m (suc k) =
    let next : suc k + m ≡ suc (k + m) = omega arith in
    omega (
      arith,
      more_turns f m k,
      ap (λ n. total (in_turns f n)) next,
      total_both (in_turns f (k + m)) (f (k + m)),
    )

-- further turns make no difference
pub turns_enough : (f : ℕ → List Measured) (m n : ℕ) {s t : Weight} → m ≤ n → greatest_size < t.sum
    → Sums s t (total (in_turns f m)) → Sums s t (total (in_turns f n))
turns_enough f m n within above a =
    let all : (n - m) + m ≡ n = omega arith in
    record {
      complete = a.complete;
      sum = λ e. omega (arith, a.sum e, more_turns f m (n - m), ap (λ n. total (in_turns f n)) all);
    }

-- ---- bodies

pub body_of_seq : (b : Body) (signatures : List (List Parameter)) (es : List Entry) (line : ℕ) (r : Replicator)
    → is_sequence b ≡ true
    → plain line (size_of_replicator r) ∷ measures_of_one signatures (add r.name (index_meaning true None) es) b
    ≡ measures_of_body signatures es line r b
body_of_seq (One kind c) signatures es line r e =
    let turns = turns_of true es in
    ap (λ s. with_turns s line (size_of_replicator r)
    (in_turns (λ n. measures_of_component signatures (in_turn r s (turns s r).first n es) c) (turns s r).count)) (sym e)

pub body_of_other : (b : Body) (signatures : List (List Parameter)) (es : List Entry) (line : ℕ) (r : Replicator)
    → is_sequence b ≡ false
    → record {
      line = line;
      size = size_of_replicator r + total (measures_in_turns signatures es r b);
      may_end = true;
    } ∷ [] ≡ measures_of_body signatures es line r b
body_of_other (One kind c) signatures es line r e =
    ap (λ s. with_turns s line (size_of_replicator r) (measures_in_turns signatures es r (One kind c))) (sym e)
