-- Two meanings that are the same but for ranges are the same, or two scalars.
use Rattle.std.proofs.Common.{◌≡◌, subst}
use Rattle.word_arithmetic.specs.Range.{Ends, full}
use Rattle.occam_parser.specs.declared.tree.ValueType.{ValueType}
use Rattle.scalar_ranges.specs.declared.scope.ScalarKind.{ScalarKind}
use Rattle.scalar_ranges.specs.Entries.{Meaning, Constant, Scalar, Array, Channel, Channels, Procedure}
use Rattle.scalar_ranges.proofs.MoveLaws.{flat}

module _ (P : Meaning → Meaning → Type 0)
    (scalars : (kind : ScalarKind) (type : ValueType) (r s : Ends) → P (Scalar kind type r) (Scalar kind type s))
    (others : (m : Meaning) → P m m) where
  scalars_alike : (kind k : ScalarKind) (type t : ValueType) (r s : Ends)
      → Scalar kind type full ≡ Scalar k t full → P (Scalar kind type r) (Scalar k t s)
  scalars_alike kind k type t r s same =
      let kinds : kind ≡ k = cc in
      let types : type ≡ t = cc in
      let to : Scalar kind type s ≡ Scalar k t s = λ i. Scalar (kinds i) (types i) s in
      subst (λ (x : Meaning). P (Scalar kind type r) x) to (scalars kind type r s)

  same_alike : (m n : Meaning) → m ≡ n → P m n
  same_alike m n same = subst (λ (x : Meaning). P m x) same (others m)

  pub alike_cases : (m n : Meaning) → flat m ≡ flat n → P m n
  alike_cases (Scalar kind type r) (Scalar k t s) same = scalars_alike kind k type t r s same
  alike_cases (Scalar kind type r) n same = by_other n same
    where
      by_other : (n : Meaning) → Scalar kind type full ≡ flat n → P (Scalar kind type r) n
      by_other (Scalar k t s) is = scalars_alike kind k type t r s is
      by_other (Constant t v) is = absurd (cc is)
      by_other (Array k t size s) is = absurd (cc is)
      by_other (Channel t) is = absurd (cc is)
      by_other (Channels t size) is = absurd (cc is)
      by_other (Procedure number) is = absurd (cc is)
  alike_cases (Constant type value) (Scalar k t s) same = absurd (cc same)
  alike_cases (Constant type value) n same = same_alike (Constant type value) n same
  alike_cases (Array kind type size range) (Scalar k t s) same = absurd (cc same)
  alike_cases (Array kind type size range) n same = same_alike (Array kind type size range) n same
  alike_cases (Channel type) (Scalar k t s) same = absurd (cc same)
  alike_cases (Channel type) n same = same_alike (Channel type) n same
  alike_cases (Channels type size) (Scalar k t s) same = absurd (cc same)
  alike_cases (Channels type size) n same = same_alike (Channels type size) n same
  alike_cases (Procedure number) (Scalar k t s) same = absurd (cc same)
  alike_cases (Procedure number) n same = same_alike (Procedure number) n same
