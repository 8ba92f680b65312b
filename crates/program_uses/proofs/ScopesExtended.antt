-- A scope with some entries more is as it was once they are left.
use Rattle.std.proofs.Common.{◌≡◌, ℕ, suc, ◌≤◌, Bool, true, false, cond, List, [], ◌∷◌, ◌++◌, length, max, nat_lt}
use Rattle.std.proofs.Common.{refl, sym, ap, arith, ◌∙◌, append_assoc}
use Rattle.std.proofs.lemmas.Bool.Decides.{nat_tests}
use Rattle.std.proofs.lemmas.List.{length-append}
use Rattle.scalar_ranges.specs.Entries.{Entry}
use Rattle.scalar_ranges.specs.MoveLaws.{shape}
use Rattle.scalar_ranges.specs.Moves.{outermost, begun_with, leave, Block, Known}
use Rattle.scalar_ranges.specs.Nesting.{AreNested}
use Rattle.program_uses.specs.Extending.{Extends}

-- ---- entries more

pub extends_one : (k l : Known) (e : Entry) → l.entries ≡ e ∷ k.entries → l.blocks ≡ k.blocks → Extends k l
extends_one k l e is same = record { inner = e ∷ []; entries = is; blocks = same }

pub extends_both : {k l m : Known} → Extends k l → Extends l m → Extends k m
extends_both {k} a b = record {
  inner = b.inner ++ a.inner;
  entries = b.entries ∙ ap (λ es. b.inner ++ es) a.entries ∙ sym (append_assoc b.inner a.inner k.entries);
  blocks = b.blocks ∙ a.blocks;
}

-- ---- the scope that is left

shape_long : (es : List Entry) → length (shape es) ≡ length es
shape_long [] = refl
shape_long (e ∷ es) = ap suc (shape_long es)

cut_by : (t : Bool) (count : ℕ) (e : Entry) (es : List Entry) → length (outermost count es) ≤ length es
    → length (cond t (e ∷ es) (outermost count es)) ≤ suc (length es)
cut_by true count e es h = omega arith
cut_by false count e es h = omega arith

cut_long : (count : ℕ) (es : List Entry) → length (outermost count es) ≤ length es
cut_long count [] = omega arith
cut_long count (e ∷ es) = cut_by (nat_lt (length es) count) count e es (cut_long count es)

pub begun_within : (es : List Entry) (bs : List Block) → AreNested es bs → begun_with bs ≤ length es
begun_within es [] nested = omega arith
begun_within es (b ∷ bs) nested =
    let same = sym (shape_long b.start) ∙ ap length nested.0 ∙ shape_long (outermost (length b.start) es) in
    omega (arith, same, cut_long (length b.start) es)

all_outermost : (es : List Entry) → outermost (length es) es ≡ es
all_outermost [] = refl
all_outermost (e ∷ es) =
    let t : nat_lt (length es) (suc (length es)) ≡ true = grind (arith, nat_tests) in
    ap (λ t. cond t (e ∷ es) (outermost (suc (length es)) es)) t

pub inner_cut : (inner es : List Entry) → outermost (length es) (inner ++ es) ≡ es
inner_cut [] es = all_outermost es
inner_cut (e ∷ inner) es =
    let long = length-append inner es in
    let t : nat_lt (length (inner ++ es)) (length es) ≡ false = grind (arith, nat_tests) in
    ap (λ t. cond t (e ∷ inner ++ es) (outermost (length es) (inner ++ es))) t ∙ inner_cut inner es

-- what was entered since the scope was so long is left
pub left_again : (old entered before after : Known) (count : ℕ) → AreNested old.entries old.blocks
    → count ≡ length old.entries → Extends old entered → before ≡ entered
    → after.entries ≡ leave count before.blocks before.entries → after.blocks ≡ before.blocks → after ≡ old
left_again old entered before after count nested is extends same left kept =
    let most : max count (begun_with old.blocks) ≡ length old.entries =
    omega (arith, begun_within old.entries old.blocks nested) in
    let entries = left ∙ (λ i. leave count (same i).blocks (same i).entries)
    ∙ (λ i. leave count (extends.blocks i) (extends.entries i))
    ∙ ap (λ n. outermost n (extends.inner ++ old.entries)) most ∙ inner_cut extends.inner old.entries in
    let outer = kept ∙ ap (λ k. k.blocks) same ∙ extends.blocks in
    λ i. record { entries = entries i; blocks = outer i }
