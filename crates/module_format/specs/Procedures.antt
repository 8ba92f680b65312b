-- The rules of procedure rows and table rows, each by itself.
use Rattle.std.specs.Prelude.{◌≡◌, ⊤, ◌^◌, ◌<◌, ◌≤◌, ℕ, nat_le, ℤ, pos, negsuc, ◌≤ℤ◌, ◌<ℤ◌, int_le, ◌-◌, Bool, ◌&&◌}
use Rattle.std.specs.Prelude.{IsTrue, List, [], ◌∷◌, length, take, drop}
use Rattle.std.specs.List.{AllByRecursion}
use Rattle.std.specs.Int.{w32, cast_signed}
use Rattle.byteorder.specs.Endian.{little_number}
use Rattle.module_format.specs.declared.rows.ParameterKind.{ParameterKind}
use Rattle.module_format.specs.declared.rows.ParameterKind.TheVariants as kinds
use Rattle.module_format.specs.declared.rows.Parameter.{Parameter}
use Rattle.module_format.specs.declared.rows.TableRow.{TableRow}
use Rattle.module_format.specs.declared.tables.Version.{Version}
use Rattle.module_format.specs.declared.tables.Version.TheVariants as versions
use Rattle.module_format.specs.declared.limits.TheConstants.{MAX_PARAMETERS, MAX_MESSAGE}
use Rattle.module_format.specs.Order.{InOrder, IsInterval, least_word, greatest_word, is_multiple_of_four}
use Rattle.module_format.specs.Contents.{Procedure}

-- a region may have `bytes` bytes: whole words, one at least
abbrev pub is_region_size : ℕ → Bool
is_region_size bytes = nat_le 4 bytes && is_multiple_of_four bytes

-- a region of words from lo to hi
pub record IsRegion (size : ℕ) (lo hi : ℤ) : Type 0 where
  pub size_fits : size < 2 ^ 32
  pub some : 4 ≤ size
  pub words : IsTrue (is_multiple_of_four size)
  pub range : IsInterval lo hi

-- one end or both
abbrev pub are_ends : ℕ → Bool
are_ends bits = nat_le 1 bits && nat_le bits 3

-- channels, with one of their ends or both
pub record AreChannels (count len ends : ℕ) : Type 0 where
  pub count_fits : count < 2 ^ 32
  pub some : 1 ≤ count
  pub has_length : 1 ≤ len
  pub limit : len ≤ MAX_MESSAGE
  pub has_end : 1 ≤ ends
  pub no_more : ends ≤ 3

abbrev pub KindKeeps : ParameterKind → Type 0
KindKeeps (kinds.Value lo hi) = IsInterval lo hi
KindKeeps (kinds.ReadRegion size lo hi) = IsRegion size lo hi
KindKeeps (kinds.WrittenRegion size lo hi) = IsRegion size lo hi
KindKeeps (kinds.Channels count len ends) = AreChannels count len ends.0

-- a parameter of a procedure whose frame ends at word `hi`, after one in word `low`
pub record ParameterKeeps (hi : ℤ) (low : ℕ) (p : Parameter) : Type 0 where
  pub rises : low < p.word
  pub inside : pos p.word <ℤ hi
  pub kind : KindKeeps p.kind

-- a parameter leaves its word
abbrev pub behind_parameter : ℕ → Parameter → ℕ
behind_parameter low p = p.word

-- a frame may begin at this word, and end before this one
abbrev pub is_frame_start : ℤ → Bool
is_frame_start lo = int_le (negsuc 16383) lo && int_le lo (pos 0)

abbrev pub is_frame_end : ℤ → Bool
is_frame_end hi = int_le (pos 4) hi && int_le hi (pos 16384)

-- a procedure row of a module with code of this length, after a row with its entry at `low`
pub record ProcedureKeeps (code_len low : ℕ) (row : Procedure) : Type 0 where
  pub rises : low < row.entry
  pub in_code : row.entry < code_len
  pub lo_low : negsuc 16383 ≤ℤ row.lo
  pub lo_high : row.lo ≤ℤ pos 0
  pub hi_low : pos 4 ≤ℤ row.hi
  pub hi_high : row.hi ≤ℤ pos 16384
  pub number_fits : row.number < 2 ^ 64
  pub few : length row.parameters ≤ MAX_PARAMETERS
  pub parameters : InOrder (ParameterKeeps row.hi) behind_parameter 0 row.parameters

-- the range that a version can say of a region's words: version 1 has none but the whole word
abbrev pub RangeFits : Version → ℤ → ℤ → Type 0
RangeFits versions.One lo hi = (lo ≡ least_word) × (hi ≡ greatest_word)
RangeFits versions.Two lo hi = ⊤

abbrev pub KindFits : Version → ParameterKind → Type 0
KindFits version (kinds.Value lo hi) = ⊤
KindFits version (kinds.ReadRegion size lo hi) = RangeFits version lo hi
KindFits version (kinds.WrittenRegion size lo hi) = RangeFits version lo hi
KindFits version (kinds.Channels count len ends) = ⊤

-- the regions of a procedure's parameters
abbrev pub ProcedureFits : Version → Procedure → Type 0
ProcedureFits version row = AllByRecursion (λ (p : Parameter). KindFits version p.kind) row.parameters

-- a procedure row leaves its entry
abbrev pub behind_procedure : ℕ → Procedure → ℕ
behind_procedure low row = row.entry

-- ---- table rows

-- the words that bytes are, four by four
abbrev pub words_in_bytes : List ℕ → List ℤ
words_in_bytes (a ∷ b ∷ c ∷ d ∷ more) = cast_signed w32 (little_number 4 (a ∷ b ∷ c ∷ d ∷ more)) ∷ words_in_bytes more
words_in_bytes _ = []

-- a word from lo to hi
pub record IsBetween (lo hi word : ℤ) : Type 0 where
  pub low : lo ≤ℤ word
  pub high : word ≤ℤ hi

-- a table row over these constants, after one that ends at `low`
pub record TableKeeps (constants : List ℕ) (low : ℕ) (row : TableRow) : Type 0 where
  pub start_aligned : IsTrue (is_multiple_of_four row.start)
  pub apart : low ≤ row.start
  pub end_aligned : IsTrue (is_multiple_of_four row.end)
  pub ordered : row.start < row.end
  pub inside : row.end ≤ length constants
  pub range : IsInterval row.lo row.hi
  pub words : AllByRecursion (IsBetween row.lo row.hi)
      (words_in_bytes (take (row.end - row.start) (drop row.start constants)))

-- a table row leaves its end
abbrev pub behind_table : ℕ → TableRow → ℕ
behind_table low row = row.end
