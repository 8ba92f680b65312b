-- The ends of channels that are passed to a procedure.
use Rattle.std.proofs.Common.{◌≡◌, ℕ, suc, ◌+◌, ◌-◌, ◌*◌, ◌/◌, ◌%◌, ◌<◌, ℤ, pos, negsuc, ◌+ℤ◌, ◌-ℤ◌, ◌*ℤ◌, FitsSigned}
use Rattle.std.proofs.Common.{Bool, true, false, if◌then◌else◌, ◌&&◌, inl, inr, Option, Some, None, refl, sym, ap, ◌∙◌}
use Rattle.std.proofs.Common.{subst, arith}
use Rattle.std.specs.Int.{w32, int_wrap, cast_unsigned, cast_signed}
use Rattle.std.specs.Prelude.{unsigned_abs, ◌==◌, nat_lt}
use Rattle.std.proofs.lemmas.Bool.Decides.{eqb_tells, leb_tells}
use Rattle.std.proofs.lemmas.Int.{ints, of_z-to_z, int_rem_euclid_is, SFits-int_wrap}
use Rattle.std.proofs.lemmas.Bool.{and_parts}
use Rattle.module_format.specs.declared.fact.Fact.TheVariants.{Unknown, Number, Pointer, CodeAddress, Loop}
use Rattle.module_format.specs.declared.fact.Fact.TheVariants.{ReturnAddress}
use Rattle.module_format.specs.declared.fact.Region.{Region}
use Rattle.module_format.specs.declared.fact.Region.TheVariants as regions
use Rattle.module_format.specs.declared.fact.Step.TheVariants.{Word, Byte}
use Rattle.module_format.specs.declared.rows.EndKind.{EndKind}
use Rattle.module_format.specs.declared.rows.EndKind.TheVariants.{FrameWord, Link, Parameter as Element}
use Rattle.module_format.specs.Contents.{Contents}
use Rattle.module_format.specs.Order.{is_stepped}
use Rattle.word_arithmetic.specs.Word.{least_word}
use Rattle.machine_state.specs.Memory.{data_start}
use Rattle.machine_state.specs.World.{link_words}
use Rattle.states.specs.declared.known.WordFact.{WordFact}
use Rattle.states.specs.declared.known.WordFact.TheVariants.{Alone, Index, Count}
use Rattle.rulings.specs.Meaning.{Layout, Activation, MeansWord, is_fact, is_number, is_pointer, word_of, region_start}
use Rattle.rulings.specs.Regions.{channel_address}
use Rattle.rulings.specs.Reach.{word_of_byte}
use Rattle.rulings.specs.Channels.{link_at, channel_in, channel_of, further}
use Rattle.rulings.proofs.Words.{word_test}
use Rattle.rulings.proofs.Offsets.{address_of_word, offset_of_word}

-- ---- addresses further on

-- some number of turns round all words makes a number natural
around : (z : ℤ) → (k : ℕ) × (m : ℕ) × (z +ℤ pos (k * 4294967296) ≡ pos m)
around (pos n) = (0, n, omega (arith, ints))
around (negsuc n) = (suc n, suc n * 4294967296 - suc n, omega (arith, ints))

wrapped : (z : ℤ) (k m : ℕ) → z +ℤ pos (k * 4294967296) ≡ pos m → cast_unsigned w32 (word_of z) ≡ m % 4294967296
unfolding int_wrap
wrapped z k m is =
    ap (λ (y : ℤ). cast_unsigned w32 (cast_signed w32 (unsigned_abs y)))
    (int_rem_euclid_is z (pos 4294967296) 4294967296 k m (omega arith) refl is)
    ∙ of_z-to_z w32 (m % 4294967296) (omega arith)

pub address_further : (z : ℤ) (n : ℕ)
    → cast_unsigned w32 (word_of (z +ℤ pos n)) ≡ (cast_unsigned w32 (word_of z) + n) % 4294967296
address_further z n =
    let a = around z in
    let first = wrapped z a.0 a.1 a.2 in
    let second = wrapped (z +ℤ pos n) a.0 (a.1 + n) (let e = a.2 in omega (arith, ints, e)) in
    second ∙ sum a.1 n ∙ ap (λ (m : ℕ). (m + n) % 4294967296) (sym first)
  where
    sum : (m n : ℕ) → (m + n) % 4294967296 ≡ (m % 4294967296 + n) % 4294967296
    sum m n = omega arith

-- the address of a link
link_address : (x : ℤ) (n i : ℕ) → x -ℤ least_word ≡ pos n → n % 4 ≡ 0 → n < 32
    → (link_words + 4 * (n / 4 + i)) % 4294967296 ≡ (cast_unsigned w32 x + 4 * i) % 4294967296
link_address x n i e whole low =
    let u : cast_unsigned w32 x ≡ 2147483648 + n = omega (arith, ints) in
    omega arith

-- ---- channels that a word names

-- A word names a channel: it has its address, and those of the channels after it.
pub record Names (layout : Layout) (first : EndKind) (v : Option ℤ) : Type 0 where
  pub x : ℤ
  pub is : v ≡ Some x
  pub fits : FitsSigned w32 x
  pub addresses : (n : ℕ) → channel_address layout (further first n) ≡ (cast_unsigned w32 x + 4 * n) % 4294967296

module _ (m : Contents) (act : Activation) (k : ℤ) where
  link_names : (lo : ℤ) (first : EndKind) (x : ℤ) → lo ≡ x → FitsSigned w32 x → link_at lo ≡ Some first
      → Names act.layout first (Some x)
  link_names lo first x same fits h = on_offset (lo -ℤ least_word) refl h
    where
      on_offset : (z : ℤ) → lo -ℤ least_word ≡ z → (elim z as (λ z. Option EndKind) [
        | pos n ↦ if (n % 4 == 0) && nat_lt n 32 then Some (Link (n / 4)) else None
        | negsuc n ↦ None
      ]) ≡ Some first → Names act.layout first (Some x)
      on_offset (negsuc n) e g = absurd (cc)
      on_offset (pos n) e g = on_test ((n % 4 == 0) && nat_lt n 32) refl g
        where
          on_test : (b : Bool) → ((n % 4 == 0) && nat_lt n 32) ≡ b
              → (if b then Some (Link (n / 4)) else None) ≡ Some first
              → Names act.layout first (Some x)
          on_test false t g = absurd (cc)
          on_test true t g =
              let is : Link (n / 4) ≡ first = cc in
              let whole : n % 4 ≡ 0 = elim (eqb_tells (n % 4) 0) [
                | inl p ↦ p.1
                | inr p ↦ let no' : false ≡ true = sym p.0 ∙ (and_parts _ _ t).0 in absurd (cc)
              ] in
              let low : n < 32 = elim (leb_tells (suc n) 32) [
                | inl p ↦ omega (arith, p.1)
                | inr p ↦ let no' : false ≡ true = sym p.0 ∙ (and_parts _ _ t).1 in absurd (cc)
              ] in
              record {
                x = x;
                is = refl;
                fits = fits;
                addresses = λ i. ap (λ (c : EndKind). channel_address act.layout (further c i)) (sym is)
                    ∙ link_address x n i (omega (arith, ints, e, same)) whole low;
              }

  behind : (x z : ℤ) (i : ℕ) → x ≡ word_of z
      → cast_unsigned w32 (word_of (z +ℤ pos (4 * i))) ≡ (cast_unsigned w32 x + 4 * i) % 4294967296
  behind x z i e = address_further z (4 * i) ∙ ap (λ (y : ℤ). (cast_unsigned w32 y + 4 * i) % 4294967296) (sym e)

  element : (s n i : ℕ) (x : ℤ) → pos 4 *ℤ word_of_byte (pos n) ≡ pos n → x ≡ word_of (pos s +ℤ pos n)
      → (s + 4 * (n / 4 + i)) % 4294967296 ≡ (cast_unsigned w32 x + 4 * i) % 4294967296
  element s n i x whole is =
      let quarter : 4 * (n / 4) ≡ n = omega (arith, ints, whole) in
      let u = ap (λ (z : ℤ). cast_unsigned w32 z) is ∙ address_of_word (s + n) in
      sum quarter ∙ ap (λ (a : ℕ). (a + 4 * i) % 4294967296) (sym u)
    where
      sum : 4 * (n / 4) ≡ n → (s + 4 * (n / 4 + i)) % 4294967296 ≡ ((s + n) % 4294967296 + 4 * i) % 4294967296
      sum e = omega arith

  pointer_names : (region : Region) (lo : ℤ) (first : EndKind) (x : ℤ) → pos 4 *ℤ word_of_byte lo ≡ lo
      → x ≡ word_of (region_start m act.layout region +ℤ lo) → channel_in region lo ≡ Some first
      → Names act.layout first (Some x)
  pointer_names regions.Frame lo first x whole is h =
      let is_first : FrameWord (word_of_byte lo) ≡ first = cc in
      record {
        x = x;
        is = refl;
        fits = subst (λ (z : ℤ). FitsSigned w32 z) (sym is) (SFits-int_wrap w32 _);
        addresses = λ i. ap (λ (c : EndKind). channel_address act.layout (further c i)) (sym is_first)
            ∙ ap (λ (z : ℤ). cast_unsigned w32 (word_of z)) (let w = whole in omega (arith, ints, w))
            ∙ behind x (pos data_start +ℤ act.layout.origin +ℤ lo) i is;
      }
  pointer_names regions.Constants lo first x whole is h = absurd (cc)
  pointer_names (regions.Parameter j) (pos n) first x whole is h =
      let is_first : Element (pos j) (n / 4) ≡ first = cc in
      record {
        x = x;
        is = refl;
        fits = subst (λ (z : ℤ). FitsSigned w32 z) (sym is) (SFits-int_wrap w32 _);
        addresses = λ i. ap (λ (c : EndKind). channel_address act.layout (further c i)) (sym is_first)
            ∙ element (act.layout.starts j) n i x whole is;
      }
  pointer_names (regions.Parameter j) (negsuc n) first x whole is h = absurd (cc)

  -- what is known of a word that names a channel holds of its address
  pub names : (fact : WordFact) (first : EndKind) (v : Option ℤ) → channel_of fact ≡ Some first
      → MeansWord m act k fact v
      → Names act.layout first v
  unfolding channel_of
  names (Alone (Number lo hi)) first None h (is_fact means) = elim means [ ]
  names (Alone (Number lo hi)) first (Some x) h (is_fact (is_number low high fits)) = elim (word_test lo hi) [
    | inl e ↦ link_names lo first x (let s = e.1 in omega (arith, ints, s, low, high)) fits
        (sym (ap (λ (b : Bool). if b then link_at lo else None) e.0) ∙ h)
    | inr e ↦
        let no' : None ≡ Some first = sym (ap (λ (b : Bool). if b then link_at lo else None) e.0) ∙ h in absurd (cc)
  ]
  names (Alone (Pointer region lo hi Word)) first None h (is_fact means) = elim means [ ]
  names (Alone (Pointer region lo hi Word)) first (Some x) h (is_fact (is_pointer offset low high stepped is)) =
      elim (word_test lo hi) [
        | inl e ↦
            let at : offset ≡ lo = let s = e.1 in omega (arith, ints, s, low, high) in
            pointer_names region lo first x
            (sym (offset_of_word lo (subst (λ (z : ℤ). is_stepped z ≡ true) at stepped)))
            (is ∙ ap (λ (z : ℤ). word_of (region_start m act.layout region +ℤ z)) at)
            (sym (ap (λ (b : Bool). if b then channel_in region lo else None) e.0) ∙ h)
        | inr e ↦
            let no' : None ≡ Some first = sym (ap (λ (b : Bool). if b then channel_in region lo else None) e.0)
            ∙ h in absurd (cc)
      ]
  names (Alone (Pointer region lo hi Byte)) first v h means = absurd (cc)
  names (Alone Unknown) first v h means = absurd (cc)
  names (Alone (CodeAddress offset)) first v h means = absurd (cc)
  names (Alone (Loop b n p)) first v h means = absurd (cc)
  names (Alone ReturnAddress) first v h means = absurd (cc)
  names (Index loop) first v h means = absurd (cc)
  names (Count loop) first v h means = absurd (cc)
