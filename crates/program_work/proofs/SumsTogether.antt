-- What parts sum up to is what the whole does.
use Rattle.std.proofs.Common.{◌≡◌, ℕ, ◌+◌, Bool, true, false, ◌&&◌, ◌||◌, List}
use Rattle.std.proofs.Common.{[], ◌∷◌}
use Rattle.std.proofs.Common.{sum_by, refl, arith, ◌∙◌}
use Rattle.std.proofs.lemmas.List.Sums.{sum_by-cons}
use Rattle.occam_parser.specs.Expressions.{Terms, Then, Term}
use Rattle.occam_parser.specs.Views.{with_others}
use Rattle.occam_parser.specs.Lines.{Declaration}
use Rattle.occam_parser.specs.Blocks.{Does, Construct, Part, Components}
use Rattle.occam_parser.specs.BlockReading.{with_declarations}
use Rattle.program_sizes.specs.LineSizes.{size_of_declaration, size_of_terms, size_of_term}
use Rattle.program_work.specs.Readings.{capped, again_in_terms, again_in_term, reading_of_declaration}
use Rattle.program_work.specs.Processes.{size_of_process, work_of, names_of, is_steep, is_sequential}
use Rattle.program_work.specs.Processes.{names_of_declaration}
use Rattle.program_work.specs.Processes.{size_in_turn, construct_size_in_turn, components_size_in_turn}
use Rattle.program_work.specs.Processes.{work_in_turn, construct_work_in_turn, components_work_in_turn}
use Rattle.program_work.specs.Processes.{size_of_construct, size_of_components, work_of_construct}
use Rattle.program_work.specs.Processes.{work_of_components, names_of_construct}
use Rattle.program_work.specs.Processes.{names_of_components}
use Rattle.program_work.specs.Processes.{is_steep_construct, are_steep}
use Rattle.program_work.specs.Processes.{is_sequential_construct, are_sequential}
use Rattle.program_work.specs.Sums.{sums, both, in_block, sums_of, sums_of_construct}
use Rattle.program_work.specs.Sums.{sums_of_components, sums_of_declared}

-- ---- numbers

pub capped_both : (a b : ℕ) → capped (capped a + capped b) ≡ capped (a + b)
capped_both a b = omega arith

pub capped_more : (a : ℕ) → capped (1 + capped a) ≡ capped (1 + a)
capped_more a = omega arith

-- ---- sums

pub both_sums : (n m a b o p c d j k : ℕ) (s t u v : Bool)
    → both (sums n a o c j s u) (sums m b p d k t v)
    ≡ sums (n + m) (a + b) (o + p) (c + d) (j + k) (s || t) (u && v)
both_sums n m a b o p c d j k s t u v =
    λ i. record {
      size = capped_both n m i;
      work = capped_both a b i;
      size_in_turn = capped_both o p i;
      work_in_turn = capped_both c d i;
      names = capped_both j k i;
      is_steep = s || t;
      is_sequential = u && v;
    }

pub block_sums : {part : Part} (cs : Components part)
    → in_block (sums_of_components cs)
    ≡ sums (1 + size_of_components cs) (1 + work_of_components cs) (1 + components_size_in_turn cs)
    (1 + components_work_in_turn cs) (names_of_components cs) (are_steep cs) (are_sequential cs)
block_sums cs =
    λ i. record {
      size = capped_more (size_of_components cs) i;
      work = capped_more (work_of_components cs) i;
      size_in_turn = capped_more (components_size_in_turn cs) i;
      work_in_turn = capped_more (components_work_in_turn cs) i;
      names = capped (names_of_components cs);
      is_steep = are_steep cs;
      is_sequential = are_sequential cs;
    }

-- ---- declarations, and then a construct

declared_size : (ds : List Declaration) (line : ℕ) (k : Construct)
    → sum_by size_of_declaration ds + size_of_construct k ≡ size_of_process (with_declarations ds (Does line k))
declared_size [] line k = omega arith
declared_size (d ∷ ds) line k = omega (arith, declared_size ds line k, sum_by-cons size_of_declaration d ds)

declared_work : (ds : List Declaration) (line : ℕ) (k : Construct)
    → sum_by reading_of_declaration ds + work_of_construct k ≡ work_of (with_declarations ds (Does line k))
declared_work [] line k = omega arith
declared_work (d ∷ ds) line k = omega (arith, declared_work ds line k, sum_by-cons reading_of_declaration d ds)

declared_size_in_turn : (ds : List Declaration) (line : ℕ) (k : Construct)
    → sum_by size_of_declaration ds + construct_size_in_turn k ≡ size_in_turn (with_declarations ds (Does line k))
declared_size_in_turn [] line k = omega arith
declared_size_in_turn (d ∷ ds) line k =
    omega (arith, declared_size_in_turn ds line k, sum_by-cons size_of_declaration d ds)

declared_work_in_turn : (ds : List Declaration) (line : ℕ) (k : Construct)
    → sum_by reading_of_declaration ds + construct_work_in_turn k
    ≡ work_in_turn (with_declarations ds (Does line k))
declared_work_in_turn [] line k = omega arith
declared_work_in_turn (d ∷ ds) line k =
    omega (arith, declared_work_in_turn ds line k, sum_by-cons reading_of_declaration d ds)

declared_names : (ds : List Declaration) (line : ℕ) (k : Construct)
    → sum_by names_of_declaration ds + names_of_construct k ≡ names_of (with_declarations ds (Does line k))
declared_names [] line k = omega arith
declared_names (d ∷ ds) line k = omega (arith, declared_names ds line k, sum_by-cons names_of_declaration d ds)

declared_steep : (ds : List Declaration) (line : ℕ) (k : Construct)
    → is_steep_construct k ≡ is_steep (with_declarations ds (Does line k))
declared_steep [] line k = refl
declared_steep (d ∷ ds) line k = declared_steep ds line k

declared_sequential : (ds : List Declaration) (line : ℕ) (k : Construct)
    → is_sequential_construct k ≡ is_sequential (with_declarations ds (Does line k))
declared_sequential [] line k = refl
declared_sequential (d ∷ ds) line k = declared_sequential ds line k

pub declared_sums : (ds : List Declaration) (line : ℕ) (k : Construct)
    → both (sums_of_declared ds) (sums_of_construct k) ≡ sums_of (with_declarations ds (Does line k))
declared_sums ds line k =
    both_sums (sum_by size_of_declaration ds) (size_of_construct k) (sum_by reading_of_declaration ds)
    (work_of_construct k) (sum_by size_of_declaration ds) (construct_size_in_turn k)
    (sum_by reading_of_declaration ds) (construct_work_in_turn k) (sum_by names_of_declaration ds)
    (names_of_construct k) false (is_steep_construct k) true (is_sequential_construct k)
    ∙ λ i. sums (declared_size ds line k i) (declared_work ds line k i) (declared_size_in_turn ds line k i)
    (declared_work_in_turn ds line k i) (declared_names ds line k i) (declared_steep ds line k i)
    (declared_sequential ds line k i)

-- ---- chains

abbrev pub further_size : Term → ℕ
further_size t = 1 + size_of_term t

pub chain_size : (ts : Terms) (xs : List Term)
    → size_of_terms (with_others ts xs) ≡ size_of_terms ts + sum_by further_size xs
chain_size ts [] = omega arith
chain_size ts (x ∷ xs) = omega (arith, chain_size (Then ts x) xs, sum_by-cons further_size x xs)

pub chain_again : (ts : Terms) (xs : List Term)
    → again_in_terms (with_others ts xs) ≡ again_in_terms ts + sum_by again_in_term xs
chain_again ts [] = omega arith
chain_again ts (x ∷ xs) = omega (arith, chain_again (Then ts x) xs, sum_by-cons again_in_term x xs)
