use Rattle.std.proofs.Common.{◌≡◌, ◌+◌, ◌≤◌, ◌<◌, ◌++◌, ◌∷◌, [], ◌⊎◌, inl, inr, ℕ, List, length, sum, take, slice_index}
use Rattle.std.proofs.Common.{arith}
use Rattle.std.proofs.lemmas.Grind.{common_steps}
use Rattle.std.proofs.lemmas.List.Sums.{sum_by_more}
use Rattle.module_format.specs.declared.limits.TheConstants.{MAX_LONG_CODE}
use Rattle.module_builder.specs.Layouts.{offset}
use Rattle.module_builder.specs.Spacing.{AreOffsets}
use Rattle.module_builder.proofs.spacing.Spacing.of.Goals as goal

counted_further : (xs offsets : List ℕ) (i end : ℕ) → i < length xs → AreOffsets (take i xs) offsets
    → length (offsets ++ (end ∷ [])) ≡ length (take (i + 1) xs) + 1
counted_further xs offsets i end lt are = let count = are.count in grind (arith, common_steps)

below_further : (xs offsets : List ℕ) (i end k : ℕ) → i < length xs → AreOffsets (take i xs) offsets → k ≤ i
    → slice_index (offsets ++ (end ∷ [])) k ≡ offset (take (i + 1) xs) k
below_further xs offsets i end k lt are le =
    let each = are.each k in let count = are.count in grind (arith, common_steps)

last_further : (xs offsets : List ℕ) (i end : ℕ) → i < length xs → AreOffsets (take i xs) offsets
    → end ≡ sum (take (i + 1) xs) → slice_index (offsets ++ (end ∷ [])) (i + 1) ≡ offset (take (i + 1) xs) (i + 1)
last_further xs offsets i end lt are e = let count = are.count in grind (arith, common_steps)

offsets_further : (xs offsets : List ℕ) (i end : ℕ) → i < length xs → AreOffsets (take i xs) offsets
    → end ≡ sum (take (i + 1) xs) → end ≤ MAX_LONG_CODE → AreOffsets (take (i + 1) xs) (offsets ++ (end ∷ []))
offsets_further xs offsets i end lt are e short = record {
  count = counted_further xs offsets i end lt are;
  each = λ k le. on_place k (split k le);
  short = rw e at short;
}
  where
    split : (k : ℕ) → k ≤ length (take (i + 1) xs) → (k ≤ i) ⊎ (k ≡ i + 1)
    split k le = grind (arith, common_steps)

    on_place : (k : ℕ) → (k ≤ i) ⊎ (k ≡ i + 1) → slice_index (offsets ++ (end ∷ [])) k ≡ offset (take (i + 1) xs) k
    on_place k (inl le) = below_further xs offsets i end k lt are le
    on_place k (inr eq) = rw eq (last_further xs offsets i end lt are e)

pub loop-len-preserved : goal.loop-len-preserved
loop-len-preserved c =
    let xs = c.deref-len-items.result.now in
    let len = c.from-end.ensures in
    let before = c.loop-len.invariant.end in
    let end : (c.loop-len.end + c.from-end.result) ≡ sum (take (c.loop-len.len-index + 1) xs) =
    grind (arith, common_steps) in
    record {
      follow = rw (c.in_ok-push-2.ensures.items) (offsets_further xs c.loop-len.offsets.items c.loop-len.len-index
          (c.loop-len.end + c.from-end.result) c.loop-len-test.true c.loop-len.invariant.follow end
          (omega (arith, c.if-end-gt-MAX_LONG_CODE.false)));
      end = end;
    }
