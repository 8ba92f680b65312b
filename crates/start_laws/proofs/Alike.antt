-- Facts read where frames and parameters lie, and where an activation returns, and nothing else of a layout.
use Rattle.std.proofs.Common.{◌≡◌, ℕ, ℤ, pos, ◌+ℤ◌, Option, refl, sym, ap, ◌∙◌}
use Rattle.module_format.specs.Rows.{Fact}
use Rattle.module_format.specs.declared.fact.Fact.TheVariants.{Unknown, Number, Pointer, CodeAddress, Loop}
use Rattle.module_format.specs.declared.fact.Fact.TheVariants.{ReturnAddress}
use Rattle.module_format.specs.declared.fact.Region.{Region}
use Rattle.module_format.specs.declared.fact.Region.TheVariants as regions
use Rattle.module_format.specs.Contents.{Contents}
use Rattle.machine_state.specs.Memory.{data_start}
use Rattle.rulings.specs.Meaning.{Layout, Means, says_nothing, is_number, is_pointer, is_code_address}
use Rattle.rulings.specs.Meaning.{is_return_address, region_start, code_address, word_of}
use Rattle.share_laws.specs.Climbing.{LieAlike}

module _ (m : Contents) (layout other : Layout) (alike : LieAlike layout other) (back : other.back ≡ layout.back) where
  -- regions start at the same addresses
  same_start : (region : Region) → region_start m other region ≡ region_start m layout region
  same_start regions.Frame = ap (λ (o : ℤ). pos data_start +ℤ o) alike.origin
  same_start regions.Constants = refl
  same_start (regions.Parameter j) = ap (λ (n : ℕ). pos n) (alike.starts j)

  -- what a fact says of a value it says in both
  pub means_alike : (f : Fact) (v : Option ℤ) → Means m layout f v → Means m other f v
  means_alike Unknown v means = says_nothing
  means_alike (Number lo hi) v (is_number low high fits) = is_number low high fits
  means_alike (Pointer region lo hi step) v (is_pointer offset low high stepped is) =
      is_pointer offset low high stepped (is ∙ ap (λ (z : ℤ). word_of (z +ℤ offset)) (sym (same_start region)))
  means_alike (CodeAddress offset) v (is_code_address is) = is_code_address is
  means_alike (Loop base count weight) v means = elim means [ ]
  means_alike ReturnAddress v (is_return_address is) =
      is_return_address (is ∙ ap (λ (n : ℕ). word_of (pos (code_address m n))) (sym back))
