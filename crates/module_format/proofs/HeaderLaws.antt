-- The laws of the header.
use Rattle.std.proofs.Common.{◌≡◌, ℕ, zero, suc, ◌^◌, ◌<◌, ◌≤◌, Bool, true, false, cond, eqb, List, [], ◌∷◌, ◌++◌}
use Rattle.std.proofs.Common.{length, drop, Ok, Err, refl, ap, ◌∙◌, append_assoc, arith}
use Rattle.std.specs.Prelude.{⊤, nat_eq}
use Rattle.std.specs.List.{flat_map, starts_with, AllByRecursion}
use Rattle.std.proofs.lemmas.Bool.Decides.{Decides-eqb}
use Rattle.std.proofs.lemmas.List.{append-nil}
use Rattle.std.proofs.lemmas.Slice.Eq.{starts_is}
use Rattle.module_format.specs.declared.fault.FormatFaultKind.TheVariants as faults
use Rattle.module_format.specs.declared.limits.TheConstants.{MAX_CONSTANTS, MAX_DATA_WORDS, MAX_BUDGET, MAX_MESSAGE}
use Rattle.module_format.specs.declared.limits.TheConstants.{MAX_PROCEDURES, MAX_LABELS, MAX_PARS, MAX_TABLES}
use Rattle.module_format.specs.declared.limits.TheConstants.{MAX_LONG_CODE}
use Rattle.module_format.specs.declared.tables.Version.{Version}
use Rattle.module_format.specs.declared.tables.Version.TheVariants as versions
use Rattle.module_format.specs.declared.reading.header.Sizes.{Sizes}
use Rattle.module_format.specs.declared.reading.header.RowCounts.{RowCounts}
use Rattle.module_format.specs.declared.reading.header.Header.{Header}
use Rattle.module_format.specs.Order.{IsBytes}
use Rattle.module_format.specs.Keeping.{max_code}
use Rattle.module_format.specs.Spelling.{u32_bytes, u64_bytes, magic_one, magic_two, magic_of, flag_bytes}
use Rattle.module_format.specs.Reading.{fault}
use Rattle.module_format.specs.ReadingFile.{magic_at, sizes_at, four_lengths_at, lengths_at, flag_at, extension_at}
use Rattle.module_format.specs.ReadingFile.{counts_at, header_at}
use Rattle.module_format.proofs.ReadsInSteps.{Has, has_ok, has_then, has_if, has_cond, step, Spelled, join}
use Rattle.module_format.proofs.ReadsInSteps.{nothing_taken, field, all_taken}
use Rattle.module_format.proofs.FieldLaws.{IsBytes-drop, wide32, wide64, limited_takes, limited_again, positive_takes}
use Rattle.module_format.proofs.FieldLaws.{positive_again, at_most_takes, at_most_again}

-- ---- the magic

magic_takes : (bytes : List ℕ) → IsBytes bytes → Has (magic_at bytes) (Spelled bytes magic_of (λ _. ⊤))
unfolding magic_at
magic_takes bytes fits =
    has_cond (starts_with nat_eq bytes magic_one) (Ok (versions.One, drop 4 bytes))
    (cond (starts_with nat_eq bytes magic_two) (Ok (versions.Two, drop 4 bytes)) (Err (fault faults.Magic 0)))
    (λ begins.
    let parts : bytes ≡ magic_one ++ drop 4 bytes =
    (starts_is Decides-eqb bytes magic_one (starts_with nat_eq bytes magic_one) refl).0 begins in
    has_ok (versions.One, drop 4 bytes) (record { parts = parts; rest_fits = IsBytes-drop 4 bytes fits; keeps = tt }))
    (λ _. has_if (starts_with nat_eq bytes magic_two) (fault faults.Magic 0) (Ok (versions.Two, drop 4 bytes))
    (λ begins.
    let parts : bytes ≡ magic_two ++ drop 4 bytes =
    (starts_is Decides-eqb bytes magic_two (starts_with nat_eq bytes magic_two) refl).0 begins in
    has_ok (versions.Two, drop 4 bytes) (record { parts = parts; rest_fits = IsBytes-drop 4 bytes fits; keeps = tt })))

magic_again : (version : Version) (rest : List ℕ) → magic_at (magic_of version ++ rest) ≡ Ok (version, rest)
unfolding magic_at
magic_again versions.One rest = refl
magic_again versions.Two rest = refl

-- ---- sizes

unfoldable pub sizes_bytes : Sizes → List ℕ
sizes_bytes s = u32_bytes s.code_len ++ u32_bytes s.const_len ++ u32_bytes s.data_words ++ u32_bytes s.base
    ++ u64_bytes s.budget ++ u32_bytes s.finish

-- the header's first rules
pub record SizesFit (version : Version) (s : Sizes) : Type 0 where
  pub code : (1 ≤ s.code_len) × (s.code_len ≤ max_code version)
  pub constants : s.const_len ≤ MAX_CONSTANTS
  pub words : (1 ≤ s.data_words) × (s.data_words ≤ MAX_DATA_WORDS)
  pub base : s.base ≤ s.data_words
  pub budget : s.budget ≤ MAX_BUDGET
  pub finish : s.finish ≤ s.code_len

pub max_code_small : (version : Version) → max_code version < 2 ^ 32
max_code_small versions.One = omega arith
max_code_small versions.Two = omega arith

pub max_code_most : (version : Version) → max_code version ≤ MAX_LONG_CODE
max_code_most versions.One = omega arith
max_code_most versions.Two = omega arith

module _ (size : ℕ) (version : Version) where
  sizes_take : (bytes : List ℕ) → IsBytes bytes
      → Has (sizes_at size version bytes) (Spelled bytes sizes_bytes (SizesFit version))
  unfolding sizes_at sizes_bytes
  sizes_take bytes fits =
      field (nothing_taken fits) (positive_takes size (max_code version) _) (λ x0 h0 t0.
      field t0 (limited_takes size 4 u32_bytes (2 ^ 32) wide32 MAX_CONSTANTS _) (λ x1 h1 t1.
      field t1 (positive_takes size MAX_DATA_WORDS _) (λ x2 h2 t2.
      field t2 (at_most_takes size x2.0 _) (λ x3 h3 t3.
      field t3 (limited_takes size 8 u64_bytes (2 ^ 64) wide64 MAX_BUDGET _) (λ x4 h4 t4.
      field t4 (at_most_takes size x0.0 _) (λ x5 h5 t5.
      all_taken t5
      (record { code = h0; constants = h1.1; words = h2; base = h3.1; budget = h4.1; finish = h5.1 })))))))

  sizes_again : (s : Sizes) (rest : List ℕ) → SizesFit version s
      → sizes_at size version (sizes_bytes s ++ rest) ≡ Ok (s, rest)
  unfolding sizes_at sizes_bytes
  sizes_again s rest h =
      let regrouped : sizes_bytes s ++ rest ≡ u32_bytes s.code_len ++ (u32_bytes s.const_len ++ (u32_bytes s.data_words
      ++ (u32_bytes s.base ++ (u64_bytes s.budget ++ (u32_bytes s.finish ++ rest))))) = simp append_assoc in
      let code : s.code_len < 2 ^ 32 = let a = h.code.1 in omega (arith, max_code_small version) in
      let constants : s.const_len < 2 ^ 32 = let a = h.constants in omega arith in
      let words : s.data_words < 2 ^ 32 = let a = h.words.1 in omega arith in
      let base : s.base < 2 ^ 32 = let a = h.base in omega arith in
      let budget : s.budget < 2 ^ 64 = let a = h.budget in omega arith in
      let finish : s.finish < 2 ^ 32 = let a = h.finish in omega (arith, code) in
      ap (sizes_at size version) regrouped
      ∙ step _ (positive_again size (max_code version) s.code_len _ code h.code.0 h.code.1)
      (step _ (limited_again size 4 u32_bytes (2 ^ 32) wide32 MAX_CONSTANTS s.const_len _ constants h.constants)
      (step _ (positive_again size MAX_DATA_WORDS s.data_words _ words h.words.0 h.words.1)
      (step _ (at_most_again size s.data_words s.base _ base h.base)
      (step _ (limited_again size 8 u64_bytes (2 ^ 64) wide64 MAX_BUDGET s.budget _ budget h.budget)
      (step _ (at_most_again size s.code_len s.finish rest finish h.finish) refl)))))

-- ---- message lengths

IsFour : ℕ × ℕ × ℕ × ℕ → Type 0
IsFour q = (q.0 ≤ MAX_MESSAGE) × (q.1 ≤ MAX_MESSAGE) × (q.2 ≤ MAX_MESSAGE) × (q.3 ≤ MAX_MESSAGE)

abbrev four_bytes : ℕ × ℕ × ℕ × ℕ → List ℕ
four_bytes q = u32_bytes q.0 ++ u32_bytes q.1 ++ u32_bytes q.2 ++ u32_bytes q.3

module _ (size : ℕ) where
  four_takes : (bytes : List ℕ) → IsBytes bytes → Has (four_lengths_at size bytes) (Spelled bytes four_bytes IsFour)
  unfolding four_lengths_at IsFour
  four_takes bytes fits =
      field (nothing_taken fits) (limited_takes size 4 u32_bytes (2 ^ 32) wide32 MAX_MESSAGE _) (λ x0 h0 t0.
      field t0 (limited_takes size 4 u32_bytes (2 ^ 32) wide32 MAX_MESSAGE _) (λ x1 h1 t1.
      field t1 (limited_takes size 4 u32_bytes (2 ^ 32) wide32 MAX_MESSAGE _) (λ x2 h2 t2.
      field t2 (limited_takes size 4 u32_bytes (2 ^ 32) wide32 MAX_MESSAGE _) (λ x3 h3 t3.
      all_taken t3 (h0.1, h1.1, h2.1, h3.1)))))

  four_again : (a b c d : ℕ) (rest : List ℕ)
      → a ≤ MAX_MESSAGE → b ≤ MAX_MESSAGE → c ≤ MAX_MESSAGE → d ≤ MAX_MESSAGE
      → four_lengths_at size (u32_bytes a ++ (u32_bytes b ++ (u32_bytes c ++ (u32_bytes d ++ rest))))
      ≡ Ok ((a, b, c, d), rest)
  unfolding four_lengths_at
  four_again a b c d rest ha hb hc hd =
      step _ (limited_again size 4 u32_bytes (2 ^ 32) wide32 MAX_MESSAGE a
      (u32_bytes b ++ (u32_bytes c ++ (u32_bytes d ++ rest))) (omega arith) ha)
      (step _ (limited_again size 4 u32_bytes (2 ^ 32) wide32 MAX_MESSAGE b (u32_bytes c ++ (u32_bytes d ++ rest))
      (omega arith) hb)
      (step _ (limited_again size 4 u32_bytes (2 ^ 32) wide32 MAX_MESSAGE c (u32_bytes d ++ rest) (omega arith) hc)
      (step _ (limited_again size 4 u32_bytes (2 ^ 32) wide32 MAX_MESSAGE d rest (omega arith) hd) refl)))

-- the lengths of the eight links
pub record AreLengths (lengths : List ℕ) : Type 0 where
  pub eight : length lengths ≡ 8
  pub limit : AllByRecursion (λ n. n ≤ MAX_MESSAGE) lengths

abbrev eight_of : ℕ × ℕ × ℕ × ℕ → ℕ × ℕ × ℕ × ℕ → List ℕ
eight_of p q = p.0 ∷ p.1 ∷ p.2 ∷ p.3 ∷ q.0 ∷ q.1 ∷ q.2 ∷ q.3 ∷ []

module _ (size : ℕ) where
  lengths_take : (bytes : List ℕ) → IsBytes bytes
      → Has (lengths_at size bytes) (Spelled bytes (flat_map u32_bytes) AreLengths)
  unfolding lengths_at IsFour
  lengths_take bytes fits =
      has_then _ _ (four_takes size bytes fits) (λ p h.
      has_then _ _ (four_takes size p.1 h.rest_fits) (λ q g.
      let all : AreLengths (eight_of p.0 q.0) =
      record {
        eight = refl;
        limit = (
          h.keeps.0,
          (
            h.keeps.1,
            (h.keeps.2, (h.keeps.3, (g.keeps.0, (g.keeps.1, (g.keeps.2, (g.keeps.3, tt)))))),
          ),
        );
      } in
      let regrouped : four_bytes p.0 ++ four_bytes q.0 ≡ flat_map u32_bytes (eight_of p.0 q.0) =
      simp (append_assoc, append-nil) in
      let parts : bytes ≡ flat_map u32_bytes (eight_of p.0 q.0) ++ q.1 =
      join (four_bytes p.0) (four_bytes q.0) q.1 h.parts g.parts ∙ ap (λ (t : List ℕ). t ++ q.1) regrouped in
      has_ok (eight_of p.0 q.0, q.1) (record { parts = parts; rest_fits = g.rest_fits; keeps = all })))

  eight_again : (a b c d e f g h : ℕ) (rest : List ℕ)
      → AreLengths (a ∷ b ∷ c ∷ d ∷ e ∷ f ∷ g ∷ h ∷ [])
      → lengths_at size (flat_map u32_bytes (a ∷ b ∷ c ∷ d ∷ e ∷ f ∷ g ∷ h ∷ []) ++ rest)
      ≡ Ok (a ∷ b ∷ c ∷ d ∷ e ∷ f ∷ g ∷ h ∷ [], rest)
  unfolding lengths_at
  eight_again a b c d e f g h rest k =
      let t2 = u32_bytes e ++ (u32_bytes f ++ (u32_bytes g ++ (u32_bytes h ++ rest))) in
      let regrouped : flat_map u32_bytes (a ∷ b ∷ c ∷ d ∷ e ∷ f ∷ g ∷ h ∷ []) ++ rest ≡ u32_bytes a
      ++ (u32_bytes b ++ (u32_bytes c ++ (u32_bytes d ++ t2))) = simp (append_assoc, append-nil) in
      let l = k.limit in
      ap (lengths_at size) regrouped
      ∙ step _ (four_again size a b c d t2 l.0 l.1.0 l.1.1.0 l.1.1.1.0)
      (step _ (four_again size e f g h rest l.1.1.1.1.0 l.1.1.1.1.1.0 l.1.1.1.1.1.1.0 l.1.1.1.1.1.1.1.0) refl)

  lengths_again : (lengths rest : List ℕ) → AreLengths lengths
      → lengths_at size (flat_map u32_bytes lengths ++ rest) ≡ Ok (lengths, rest)
  lengths_again [] rest k = absurd (let e = k.eight in omega arith)
  lengths_again (a ∷ []) rest k = absurd (let e = k.eight in omega arith)
  lengths_again (a ∷ b ∷ []) rest k = absurd (let e = k.eight in omega arith)
  lengths_again (a ∷ b ∷ c ∷ []) rest k = absurd (let e = k.eight in omega arith)
  lengths_again (a ∷ b ∷ c ∷ d ∷ []) rest k = absurd (let e = k.eight in omega arith)
  lengths_again (a ∷ b ∷ c ∷ d ∷ e ∷ []) rest k = absurd (let e = k.eight in omega arith)
  lengths_again (a ∷ b ∷ c ∷ d ∷ e ∷ f ∷ []) rest k = absurd (let e = k.eight in omega arith)
  lengths_again (a ∷ b ∷ c ∷ d ∷ e ∷ f ∷ g ∷ []) rest k = absurd (let e = k.eight in omega arith)
  lengths_again (a ∷ b ∷ c ∷ d ∷ e ∷ f ∷ g ∷ h ∷ []) rest k = eight_again a b c d e f g h rest k
  lengths_again (a ∷ b ∷ c ∷ d ∷ e ∷ f ∷ g ∷ h ∷ i ∷ more) rest k = absurd (let e = k.eight in omega arith)

-- ---- the flag and the numbers of rows

-- version 1 has neither a flag nor table rows
abbrev pub FlagFits : Version → Bool → ℕ → Type 0
FlagFits versions.One flag rows = (flag ≡ false) × (rows ≡ 0)
FlagFits versions.Two flag rows = ⊤

flag_of : (n : ℕ) → n ≤ 1 → cond (eqb n 1) 1 0 ≡ n
flag_of zero h = refl
flag_of (suc zero) h = refl
flag_of (suc (suc n)) h = absurd (omega arith)

flag_is : (b : Bool) → eqb (cond b 1 0) 1 ≡ b
flag_is true = refl
flag_is false = refl

flag_small : (b : Bool) → cond b 1 0 ≤ 1
flag_small true = omega arith
flag_small false = omega arith

record ExtensionFits (version : Version) (e : Bool × ℕ) : Type 0 where
  flag : FlagFits version e.0 e.1
  limit : e.1 ≤ MAX_TABLES

module _ (size : ℕ) where
  flag_takes : (bytes : List ℕ) → IsBytes bytes
      → Has (flag_at size bytes) (Spelled bytes (λ b. u32_bytes (cond b 1 0)) (λ _. ⊤))
  unfolding flag_at
  flag_takes bytes fits =
      has_then _ _ (at_most_takes size 1 bytes fits) (λ n h.
      let parts : bytes ≡ u32_bytes (cond (eqb n.0 1) 1 0) ++ n.1 = rw (flag_of n.0 h.keeps.1) h.parts in
      has_ok (eqb n.0 1, n.1) (record { parts = parts; rest_fits = h.rest_fits; keeps = tt }))

  flag_again : (b : Bool) (rest : List ℕ) → flag_at size (u32_bytes (cond b 1 0) ++ rest) ≡ Ok (b, rest)
  unfolding flag_at
  flag_again b rest =
      let small : cond b 1 0 ≤ 1 = flag_small b in
      step _ (at_most_again size 1 (cond b 1 0) rest (omega arith) small) (rw (flag_is b) refl)

  extension_takes : (version : Version) (bytes : List ℕ) → IsBytes bytes
      → Has (extension_at size version bytes) (Spelled bytes (λ e. flag_bytes version e.0 e.1) (ExtensionFits version))
  unfolding extension_at
  extension_takes versions.One bytes fits =
      has_ok ((false, 0), bytes) (record {
        parts = refl;
        rest_fits = fits;
        keeps =
            record { flag = (refl, refl); limit = omega arith };
      })
  extension_takes versions.Two bytes fits =
      has_then _ _ (flag_takes bytes fits) (λ flag h.
      has_then _ _ (limited_takes size 4 u32_bytes (2 ^ 32) wide32 MAX_TABLES flag.1 h.rest_fits) (λ count g.
      let parts = join (u32_bytes (cond flag.0 1 0)) (u32_bytes count.0) count.1 h.parts g.parts in
      has_ok ((flag.0, count.0), count.1)
      (record { parts = parts; rest_fits = g.rest_fits; keeps = record { flag = tt; limit = g.keeps.1 } })))

  extension_again : (version : Version) (flag : Bool) (count : ℕ) (rest : List ℕ) → FlagFits version flag count
      → count ≤ MAX_TABLES
      → extension_at size version (flag_bytes version flag count ++ rest) ≡ Ok ((flag, count), rest)
  unfolding extension_at
  extension_again versions.One flag count rest h limit = rw (h.0, h.1) refl
  extension_again versions.Two flag count rest h limit =
      let regrouped : flag_bytes versions.Two flag count ++ rest ≡ u32_bytes (cond flag 1 0)
      ++ (u32_bytes count ++ rest) = append_assoc (u32_bytes (cond flag 1 0)) (u32_bytes count) rest in
      ap (extension_at size versions.Two) regrouped
      ∙ step _ (flag_again flag (u32_bytes count ++ rest))
      (step _ (limited_again size 4 u32_bytes (2 ^ 32) wide32 MAX_TABLES count rest (omega arith) limit) refl)

abbrev pub counts_bytes : Version → RowCounts → List ℕ
counts_bytes version n = u32_bytes n.procedures ++ u32_bytes n.labels ++ u32_bytes n.pars
    ++ flag_bytes version n.has_long_operations n.table_rows

pub record CountsFit (version : Version) (n : RowCounts) : Type 0 where
  pub procedures : n.procedures ≤ MAX_PROCEDURES
  pub labels : n.labels ≤ MAX_LABELS
  pub pars : n.pars ≤ MAX_PARS
  pub table_rows : n.table_rows ≤ MAX_TABLES
  pub flag : FlagFits version n.has_long_operations n.table_rows

module _ (size : ℕ) (version : Version) where
  counts_take : (bytes : List ℕ) → IsBytes bytes
      → Has (counts_at size version bytes) (Spelled bytes (counts_bytes version) (CountsFit version))
  unfolding counts_at
  counts_take bytes fits =
      field (nothing_taken fits) (limited_takes size 4 u32_bytes (2 ^ 32) wide32 MAX_PROCEDURES _) (λ x0 h0 t0.
      field t0 (limited_takes size 4 u32_bytes (2 ^ 32) wide32 MAX_LABELS _) (λ x1 h1 t1.
      field t1 (limited_takes size 4 u32_bytes (2 ^ 32) wide32 MAX_PARS _) (λ x2 h2 t2.
      field t2 (extension_takes size version _) (λ x3 h3 t3.
      all_taken t3 (record {
        procedures = h0.1;
        labels = h1.1;
        pars = h2.1;
        table_rows = h3.limit;
        flag = h3.flag;
      })))))

  counts_again : (n : RowCounts) (rest : List ℕ) → CountsFit version n
      → counts_at size version (counts_bytes version n ++ rest) ≡ Ok (n, rest)
  unfolding counts_at
  counts_again n rest h =
      let t3 = flag_bytes version n.has_long_operations n.table_rows ++ rest in
      let t2 = u32_bytes n.pars ++ t3 in
      let t1 = u32_bytes n.labels ++ t2 in
      let regrouped : counts_bytes version n ++ rest ≡ u32_bytes n.procedures ++ t1 = simp append_assoc in
      let procedures : n.procedures < 2 ^ 32 = let a = h.procedures in omega arith in
      let labels : n.labels < 2 ^ 32 = let a = h.labels in omega arith in
      let pars : n.pars < 2 ^ 32 = let a = h.pars in omega arith in
      ap (counts_at size version) regrouped
      ∙ step _ (limited_again size 4 u32_bytes (2 ^ 32) wide32 MAX_PROCEDURES n.procedures t1 procedures h.procedures)
      (step _ (limited_again size 4 u32_bytes (2 ^ 32) wide32 MAX_LABELS n.labels t2 labels h.labels)
      (step _ (limited_again size 4 u32_bytes (2 ^ 32) wide32 MAX_PARS n.pars t3 pars h.pars)
      (step _ (extension_again size version n.has_long_operations n.table_rows rest h.flag h.table_rows) refl)))

-- ---- the whole header

unfoldable pub head_bytes : Header → List ℕ
head_bytes h =
    magic_of h.version ++ sizes_bytes h.sizes ++ flat_map u32_bytes h.lengths ++ counts_bytes h.version h.counts

pub record HeaderFits (h : Header) : Type 0 where
  pub sizes : SizesFit h.version h.sizes
  pub lengths : AreLengths h.lengths
  pub counts : CountsFit h.version h.counts

pub header_takes : (bytes : List ℕ) → IsBytes bytes → Has (header_at bytes) (Spelled bytes head_bytes HeaderFits)
unfolding header_at head_bytes
header_takes bytes fits =
    let size = length bytes in
    field (nothing_taken fits) (magic_takes _) (λ x0 h0 t0.
    field t0 (sizes_take size x0.0 _) (λ x1 h1 t1.
    field t1 (lengths_take size _) (λ x2 h2 t2.
    field t2 (counts_take size x0.0 _) (λ x3 h3 t3.
    all_taken t3 (record { sizes = h1; lengths = h2; counts = h3 })))))

pub header_again : (h : Header) (rest : List ℕ) → HeaderFits h → header_at (head_bytes h ++ rest) ≡ Ok (h, rest)
unfolding header_at head_bytes
header_again h rest k =
    let size = length (head_bytes h ++ rest) in
    let t3 = counts_bytes h.version h.counts ++ rest in
    let t2 = flat_map u32_bytes h.lengths ++ t3 in
    let t1 = sizes_bytes h.sizes ++ t2 in
    let regrouped : head_bytes h ++ rest ≡ magic_of h.version ++ t1 = simp append_assoc in
    step _ (ap magic_at regrouped ∙ magic_again h.version t1)
    (step _ (sizes_again size h.version h.sizes t2 k.sizes)
    (step _ (lengths_again size h.lengths t3 k.lengths)
    (step _ (counts_again size h.version h.counts rest k.counts) refl)))
