-- Parts of a program are weighed one after another.
use Rattle.std.proofs.Common.{◌≡◌, ℕ, ◌+◌, ◌<◌, ◌≤◌, Bool, true, false, cond, ◌&&◌, List, [], ◌∷◌, ◌++◌, length}
use Rattle.std.proofs.Common.{map, take, get_or, sum_by, nat_lt, Option, Some, None, refl, sym, ap, subst, arith, ◌∙◌}
use Rattle.std.proofs.Common.{add-zero, add_assoc}
use Rattle.std.specs.Option.{option_or}
use Rattle.std.proofs.lemmas.Bool.Decides.{nat_tests}
use Rattle.std.proofs.lemmas.List.{take_all}
use Rattle.std.proofs.lemmas.List.Sums.{sum_by-cons}
use Rattle.occam_parser.specs.Lines.{Declaration}
use Rattle.occam_parser.specs.Blocks.{Does, Construct, Part, Component}
use Rattle.occam_parser.specs.BlockReading.{with_declarations}
use Rattle.occam_parser.specs.BlockViews.{all_of}
use Rattle.occam_parser.proofs.SeenBlocks.{all_push}
use Rattle.scalar_ranges.specs.Entries.{Entry}
use Rattle.scalar_ranges.specs.Moves.{Known}
use Rattle.program_uses.specs.Declaring.{add_outline}
use Rattle.program_uses.specs.Entering.{add_outlines}
use Rattle.program_uses.specs.Signatures.{Parameter}
use Rattle.program_uses.proofs.Adding.{taken_one}
use Rattle.usage_checks.specs.declared.weighing.Weight.{Weight}
use Rattle.program_sizes.specs.LineSizes.{size_of_declaration, greatest_size, capped}
use Rattle.usage_checks.specs.Sizes.{Measured, plain, total, measures_of, measures_of_construct}
use Rattle.usage_checks.specs.Sizes.{measures_of_components, measures_of_component, end_in}
use Rattle.usage_checks.specs.Weighing.{Counts, Sums, Weighs, WeighsIn, end_at, declared_lines}

-- ---- sums

pub total_both : (ms ns : List Measured) → total (ms ++ ns) ≡ total ms + total ns
total_both [] ns = omega arith
total_both (m ∷ ms) ns = omega (arith, total_both ms ns)

-- one sum after another, each up to just above the greatest size
sum_both : (s t w a b n : ℕ) → capped t ≡ capped (s + a) → capped w ≡ capped (t + b) → n ≡ a + b
    → capped w ≡ capped (s + n)
sum_both s t w a b n first second both = omega arith

above_same : (a b : ℕ) → capped a ≡ capped b → nat_lt greatest_size a ≡ nat_lt greatest_size b
above_same a b same = grind (arith, nat_tests)

-- ---- where counting ends

or_none : (a : Option ℕ) → a ≡ option_or a None
or_none None = refl
or_none (Some line) = refl

or_assoc : (a b c : Option ℕ) → option_or (option_or a b) c ≡ option_or a (option_or b c)
or_assoc None b c = refl
or_assoc (Some line) b c = refl

pub end_same : (a b : ℕ) (ms : List Measured) → capped a ≡ capped b → end_in a ms ≡ end_in b ms
end_same a b [] same = refl
end_same a b (m ∷ ms) same =
    let more : capped (a + m.size) ≡ capped (b + m.size) = omega arith in
    λ i. cond (m.may_end && above_same (a + m.size) (b + m.size) more i) (Some m.line)
    (end_same (a + m.size) (b + m.size) ms more i)

end_chosen : (t : Bool) (line : ℕ) (a b c : Option ℕ) → a ≡ option_or b c
    → cond t (Some line) a ≡ option_or (cond t (Some line) b) c
end_chosen true line a b c e = refl
end_chosen false line a b c e = e

end_both : (sum : ℕ) (ms ns : List Measured)
    → end_in sum (ms ++ ns) ≡ option_or (end_in sum ms) (end_in (sum + total ms) ns)
end_both sum [] ns = ap (λ n. end_in n ns) (sym (add-zero sum))
end_both sum (m ∷ ms) ns =
    let later = sum + m.size in
    end_chosen (m.may_end && nat_lt greatest_size later) m.line (end_in later (ms ++ ns)) (end_in later ms)
    (end_in (sum + (m.size + total ms)) ns)
    (end_both later ms ns
    ∙ ap (λ n. option_or (end_in later ms) (end_in n ns)) (add_assoc sum m.size (total ms)))

-- ---- parts in a row

pub weighs_both : {s t w : Weight} {ms ns : List Measured} → Weighs s t ms → Weighs t w ns → Weighs s w (ms ++ ns)
weighs_both {s} {t} {w} {ms} {ns} a b = record {
  complete = λ e. a.complete (b.complete e);
  sum = λ e. sum_both s.sum t.sum w.sum (total ms) (total ns) (total (ms ++ ns)) (a.sum (b.complete e)) (b.sum e)
      (total_both ms ns);
  over = λ e. b.over e
      ∙ (λ i. option_or (a.over (b.complete e) i)
      (end_same t.sum (s.sum + total ms) ns (a.sum (b.complete e)) i))
      ∙ or_assoc s.over (end_in s.sum ms) (end_in (s.sum + total ms) ns)
      ∙ ap (option_or s.over) (sym (end_both s.sum ms ns));
}

pub weighs_as : {s t : Weight} {ms ns : List Measured} → ms ≡ ns → Weighs s t ms → Weighs s t ns
weighs_as {s} {t} e a = subst (Weighs s t) e a

-- what is said where memory was not enough is nothing
pub weighs_if : {s t : Weight} {ms ns : List Measured} → (t.complete ≡ true → ms ≡ ns) → Weighs s t ms → Weighs s t ns
weighs_if {s} {t} same a = record {
  complete = a.complete;
  sum = λ e. a.sum e ∙ ap (λ ms. capped (s.sum + total ms)) (same e);
  over = λ e. a.over e ∙ ap (λ ms. option_or s.over (end_in s.sum ms)) (same e);
}

-- ---- lines

pub counts_line : (line n : ℕ) {s t : Weight} {size : ℕ} → size ≡ capped n → Counts s t size
    → Weighs s t (plain line n ∷ [])
counts_line line n {s} {t} is a = record {
  complete = λ e. sym a.complete ∙ e;
  sum = λ e. omega (arith, a.sum);
  over = λ e. a.over ∙ or_none s.over;
}

declared_total : (ds : List Declaration) → total (declared_lines ds) ≡ sum_by size_of_declaration ds
declared_total [] = refl
declared_total (d ∷ ds) = omega (arith, declared_total ds, sum_by-cons size_of_declaration d ds)

declared_end : (sum : ℕ) (ds : List Declaration) → end_in sum (declared_lines ds) ≡ None
declared_end sum [] = refl
declared_end sum (d ∷ ds) = declared_end (sum + size_of_declaration d) ds

pub counts_declared : (ds : List Declaration) {s t : Weight} {size : ℕ}
    → size ≡ capped (sum_by size_of_declaration ds) → Counts s t size → Weighs s t (declared_lines ds)
counts_declared ds {s} {t} is a = record {
  complete = λ e. sym a.complete ∙ e;
  sum = λ e. omega (arith, a.sum, declared_total ds);
  over = λ e. a.over ∙ or_none s.over ∙ ap (option_or s.over) (sym (declared_end s.sum ds));
}

-- ---- what is counted whole, after which counting may end

pub counts_sums : (n : ℕ) {s t : Weight} {size : ℕ} → size ≡ capped n → Counts s t size → Sums s t n
counts_sums n is a = record { complete = λ e. sym a.complete ∙ e; sum = λ e. omega (arith, a.sum) }

pub sums_both : (m n : ℕ) {s t w : Weight} → Sums s t m → Sums t w n → Sums s w (m + n)
sums_both m n {s} {t} {w} a b = record {
  complete = λ e. a.complete (b.complete e);
  sum = λ e. sum_both s.sum t.sum w.sum m n (m + n) (a.sum (b.complete e)) (b.sum e) refl;
}

pub sums_as : {s t : Weight} {m n : ℕ} → m ≡ n → Sums s t m → Sums s t n
sums_as {s} {t} e a = subst (Sums s t) e a

-- where counting ended inside is not known afterwards
pub sums_end : (line n : ℕ) {s t w : Weight} → Sums s t n → w.sum ≡ t.sum
    → w.over ≡ option_or s.over (end_at line t.sum) → w.complete ≡ t.complete
    → Weighs s w (record { line = line; size = n; may_end = true } ∷ [])
sums_end line n {s} {t} {w} a sum over complete = record {
  complete = λ e. a.complete (sym complete ∙ e);
  sum = λ e. omega (arith, a.sum (sym complete ∙ e));
  over = λ e. over
      ∙ (λ i. option_or s.over
      (cond (above_same t.sum (s.sum + n) (a.sum (sym complete ∙ e)) i) (Some line) None));
}

-- ---- declarations, and then a construct

pub measures_behind : (signatures : List (List Parameter)) (es : List Entry) (ds : List Declaration) (line : ℕ)
    (k : Construct) → declared_lines ds ++ measures_of_construct signatures (add_outlines ds es) line k
    ≡ measures_of signatures es (with_declarations ds (Does line k))
measures_behind signatures es [] line k = refl
measures_behind signatures es (d ∷ ds) line k =
    ap (λ ms. declared_lines (d ∷ []) ++ ms) (measures_behind signatures (add_outline d es) ds line k)

-- ---- components

components_next : {part : Part} {A : Type 0} (signatures : List (List Parameter)) (es : List Entry)
    (f : A → Component part) (xs : List A) (i : ℕ) (x : A) → i < length xs → x ≡ get_or xs i x
    → measures_of_components signatures es (all_of (map f (take i xs))) ++ measures_of_component signatures es (f x)
    ≡ measures_of_components signatures es (all_of (map f (take (i + 1) xs)))
components_next signatures es f xs i x h is =
    sym (ap (measures_of_components signatures es)
    (all_push f (take i xs) (take (i + 1) xs) x (taken_one xs i x x h is)))

pub weighs_then : {s t w : Weight} {k l : Known} {ms ns : List Measured} → Weighs s t ms → WeighsIn t w k l ns
    → WeighsIn s w k l (ms ++ ns)
weighs_then a b = record { weight = weighs_both a b.weight; scope = b.scope }

pub weighs_in_as : {s t : Weight} {k l : Known} {ms ns : List Measured} → ms ≡ ns → WeighsIn s t k l ms
    → WeighsIn s t k l ns
weighs_in_as e a = record { weight = weighs_as e a.weight; scope = a.scope }

pub weighs_next : {part : Part} {A : Type 0} (signatures : List (List Parameter)) (f : A → Component part)
    (xs : List A) (i : ℕ) (x : A) {s t w : Weight} {k l m : Known} → i < length xs → x ≡ get_or xs i x
    → WeighsIn s t k l (measures_of_components signatures k.entries (all_of (map f (take i xs))))
    → WeighsIn t w l m (measures_of_component signatures l.entries (f x))
    → WeighsIn s w k m (measures_of_components signatures k.entries (all_of (map f (take (i + 1) xs))))
weighs_next signatures f xs i x {k = k} h is before next = record {
  weight = weighs_as (components_next signatures k.entries f xs i x h is)
      (weighs_both before.weight
      (weighs_as (ap (λ j. measures_of_component signatures j.entries (f x)) before.scope) next.weight));
  scope = next.scope ∙ before.scope;
}

pub weighs_all : {part : Part} {A : Type 0} (signatures : List (List Parameter)) (f : A → Component part)
    (xs : List A) (i : ℕ) {s t : Weight} {k l : Known} → length xs ≤ i
    → WeighsIn s t k l (measures_of_components signatures k.entries (all_of (map f (take i xs))))
    → WeighsIn s t k l (measures_of_components signatures k.entries (all_of (map f xs)))
weighs_all signatures f xs i {k = k} done a =
    weighs_in_as (ap (λ xs. measures_of_components signatures k.entries (all_of (map f xs))) (take_all i xs done)) a
