-- What a branch has its opener has lent it.
use Rattle.std.proofs.Common.{◌≡◌, ℕ, ◌+◌, ◌*◌, ◌/◌, ◌&&◌, ◌||◌, not, Bool, true, false, inl, inr, ℤ, pos, ◌+ℤ◌, Option}
use Rattle.std.proofs.Common.{Some, None, refl, sym, ap, ◌∙◌, subst, arith, eqb-true}
use Rattle.std.proofs.lemmas.Int.{ints}
use Rattle.std.specs.Prelude.{slice_get, option_map, IsTrue, ◌%◌}
use Rattle.std.proofs.lemmas.Bool.{or_cases, and_parts}
use Rattle.module_format.specs.declared.fact.Region.TheVariants as regions
use Rattle.module_format.specs.declared.rows.Parameter.{Parameter}
use Rattle.module_format.specs.declared.rows.ParameterKind.{ParameterKind}
use Rattle.module_format.specs.declared.rows.ParameterKind.TheVariants.{Value, ReadRegion, WrittenRegion, Channels}
use Rattle.module_format.specs.Contents.{Contents, Par, Branch}
use Rattle.module_format.specs.Contexts.{parameters_at}
use Rattle.module_format.specs.Keeping.{Keeps}
use Rattle.module_format.specs.Order.{is_multiple_of_four}
use Rattle.module_format.specs.Procedures.{KindKeeps}
use Rattle.certificate.specs.Rights as rights
use Rattle.certificate.specs.Rights.{is_among}
use Rattle.machine_state.specs.BranchContexts.{context_of, IsContextOf}
use Rattle.machine_state.specs.BranchShares.{region_size}
use Rattle.machine_state.specs.JoinLookups.{Found}
use Rattle.machine_state.specs.Memory.{place_of}
use Rattle.rulings.specs.Lends.{IsRegionKind, of_parameter, Part}
use Rattle.rulings.specs.Meaning.{Layout, place_in}
use Rattle.rulings.specs.Regions.{Scope, scope_of, parameter_used}
use Rattle.rulings.specs.Remaining.{kind_left, is_hidden}
use Rattle.rulings.proofs.Combining.{written_readable}
use Rattle.rulings.proofs.EndNumbers.{parameter_kind}
use Rattle.share_laws.specs.Shares.{IsBranch}
use Rattle.share_laws.specs.Starts.{IsLeft}
use Rattle.share_laws.specs.Climbing.{LieAlike, IsLentBy, BranchesAreLent}
use Rattle.share_laws.proofs.LeftParameters.{left_by, Takes, takes_to_write, takes_to_read, takes_nothing}
use Rattle.share_laws.proofs.LeftParameters.{takes_channels, taken}
use Rattle.share_laws.proofs.Rows.{has_context}

-- ---- what is left of a kind was there

-- a region that is left in part was a region
left_was_region : (w r : Bool) (kind : ParameterKind) (size : ℕ) (lo hi : ℤ)
    → IsRegionKind (left_by w r kind) size lo hi → IsRegionKind kind size lo hi
left_was_region true r (Value a b) size lo hi (inl is) = absurd (cc)
left_was_region true r (Value a b) size lo hi (inr is) = absurd (cc)
left_was_region true r (ReadRegion n a b) size lo hi (inl is) = absurd (cc)
left_was_region true r (ReadRegion n a b) size lo hi (inr is) = absurd (cc)
left_was_region true r (WrittenRegion n a b) size lo hi (inl is) = absurd (cc)
left_was_region true r (WrittenRegion n a b) size lo hi (inr is) = absurd (cc)
left_was_region true r (Channels c l e) size lo hi (inl is) = absurd (cc)
left_was_region true r (Channels c l e) size lo hi (inr is) = absurd (cc)
left_was_region false true (Value a b) size lo hi (inl is) = absurd (cc)
left_was_region false true (Value a b) size lo hi (inr is) = absurd (cc)
left_was_region false true (ReadRegion n a b) size lo hi is = is
left_was_region false true (WrittenRegion n a b) size lo hi (inl is) = inr (written_too n size a b lo hi is)
  where
    written_too : (n size : ℕ) (a b lo hi : ℤ) → ReadRegion n a b ≡ ReadRegion size lo hi
        → WrittenRegion n a b ≡ WrittenRegion size lo hi
    written_too n size a b lo hi e = cc
left_was_region false true (WrittenRegion n a b) size lo hi (inr is) = absurd (cc)
left_was_region false true (Channels c l e) size lo hi (inl is) = absurd (cc)
left_was_region false true (Channels c l e) size lo hi (inr is) = absurd (cc)
left_was_region false false kind size lo hi is = is

-- one that is left to write was one to write
left_was_written : (w r : Bool) (kind : ParameterKind) (size : ℕ) (lo hi : ℤ)
    → left_by w r kind ≡ WrittenRegion size lo hi → kind ≡ WrittenRegion size lo hi
left_was_written true r (Value a b) size lo hi is = absurd (cc)
left_was_written true r (ReadRegion n a b) size lo hi is = absurd (cc)
left_was_written true r (WrittenRegion n a b) size lo hi is = absurd (cc)
left_was_written true r (Channels c l e) size lo hi is = absurd (cc)
left_was_written false true (Value a b) size lo hi is = absurd (cc)
left_was_written false true (ReadRegion n a b) size lo hi is = absurd (cc)
left_was_written false true (WrittenRegion n a b) size lo hi is = absurd (cc)
left_was_written false true (Channels c l e) size lo hi is = absurd (cc)
left_was_written false false kind size lo hi is = is

-- a region has whole words
quarter : (size : ℕ) → IsTrue (is_multiple_of_four size) → size ≡ 4 * (size / 4)
quarter size whole = let none : size % 4 ≡ 0 = eqb-true (size % 4) 0 whole in omega (arith, none)

-- of a kind that names a region, or none
whole_kind : (kind : ParameterKind) (size : ℕ) → KindKeeps kind → region_size kind ≡ size
    → size ≡ 4 * (size / 4)
whole_kind (Value lo hi) size keeps is = omega (arith, is)
whole_kind (ReadRegion n lo hi) size keeps is =
    quarter size (subst (λ k. IsTrue (is_multiple_of_four k)) is keeps.words)
whole_kind (WrittenRegion n lo hi) size keeps is =
    quarter size (subst (λ k. IsTrue (is_multiple_of_four k)) is keeps.words)
whole_kind (Channels count len ends) size keeps is = omega (arith, is)

module _ (m : Contents) (found : Found) (layout other : Layout) (keeps : Keeps m) (is : IsBranch m found)
    (left : IsLeft m found) (alike : LieAlike layout other) where
  abbrev opener : Scope
  opener = scope_of m found.par.context layout

  abbrev branch : Scope
  branch = scope_of m (context_of m found) other

  -- the branch's context
  stands : IsContextOf m found
  stands = has_context m found keeps is

  -- ---- words

  -- a word that the branch may write its opener may write
  writes : (k : ℤ) → rights.may_write_word m (context_of m found) k ≡ true
      → rights.may_write_word m found.par.context k ≡ true
  writes k t =
      let among = sym (ap (λ (o : Option (Par × Branch)). elim o as (λ o. Bool) [
        | None ↦ true
        | Some found ↦ is_among found.1.writes k
      ]) stands.numbered) ∙ (and_parts _ _ t).1 in
      let a = and_parts (rights.may_write_word m found.par.context k && not (is_hidden found.par k)) _
      (left.writes k among) in
      (and_parts (rights.may_write_word m found.par.context k) _ a.0).0

  -- one that it may read its opener may read
  reads : (k : ℤ) → rights.may_read_word m (context_of m found) k ≡ true
      → rights.may_read_word m found.par.context k ≡ true
  reads k t = elim (or_cases (is_among found.branch.writes k) (is_among found.branch.reads k)
      (sym (ap (λ (o : Option (Par × Branch)). elim o as (λ o. Bool) [
        | None ↦ true
        | Some found ↦ is_among found.1.writes k || is_among found.1.reads k
      ]) stands.numbered) ∙ (and_parts _ _ t).1)) [
        | inl w ↦
            let a = and_parts (rights.may_write_word m found.par.context k && not (is_hidden found.par k)) _
            (left.writes k w) in
            written_readable m found.par.context k (and_parts (rights.may_write_word m found.par.context k) _ a.0).0
        | inr r ↦
            let a = and_parts (rights.may_read_word m found.par.context k && not (is_hidden found.par k)) _
            (left.reads k r) in
            (and_parts (rights.may_read_word m found.par.context k) _ a.0).0
      ]

  -- ---- parameters

  -- what the opener's context has of a parameter of the branch
  record HasOf (j : ℕ) (mine : Parameter) : Type 0 where
    q : Parameter
    there : opener.parameters j ≡ Some q
    takes : Takes m found j mine.kind (kind_left found.par found.number j q.kind)

  -- each parameter of the branch is one of its opener's
  has_of : (j : ℕ) (p : Parameter) → branch.parameters j ≡ Some p → HasOf j p
  has_of j p there =
      let t = taken m found layout stands.numbered stands.parameters left j p there in
      on t.theirs t.takes (parameter_used m found.par.context j) refl t.found_there
    where
      on : (theirs : Parameter) → Takes m found j p.kind theirs.kind → (o : Option Parameter)
          → parameter_used m found.par.context j ≡ o
          → option_map (λ (p : Parameter). record p { kind = kind_left found.par found.number j p.kind }) o
          ≡ Some theirs → HasOf j p
      on theirs takes None e h = absurd (cc)
      on theirs takes (Some q) e h =
          let same : (record q { kind = kind_left found.par found.number j q.kind }) ≡ theirs = cc in
          record {
            q = q;
            there = e;
            takes = subst (λ (x : Parameter). Takes m found j p.kind x.kind) (sym same) takes;
          }

  -- what it names is all that the opener's names, or less may be done with it
  part_of : (j : ℕ) (p : Parameter) → branch.parameters j ≡ Some p
      → Part m opener branch (pos 0) p.kind (other.starts j)
  part_of j p there = let has = has_of j p there in on has has.takes
    where
      place_is : place_of (other.starts j) ≡ place_of (layout.starts j) + 4 * 0
      place_is = ap place_of (alike.starts j) ∙ (let e : place_of (layout.starts j) ≡ place_of (layout.starts j) + 4 *
          0 =
          omega arith in e)

      whole : (raw : Parameter) (size : ℕ) → slice_get (parameters_at m found.par.context) j ≡ Some raw
          → region_size raw.kind ≡ size → size ≡ 4 * (size / 4)
      whole raw size here long =
          whole_kind raw.kind size (parameter_kind m keeps found.par.context j raw here) long

      of_kind : (kind : ParameterKind) → p.kind ≡ kind → Part m opener branch (pos 0) kind (other.starts j)
          → Part m opener branch (pos 0) p.kind (other.starts j)
      of_kind kind e part = subst (λ (k : ParameterKind). Part m opener branch (pos 0) k (other.starts j)) (sym e) part

      on : (has : HasOf j p) → Takes m found j p.kind (kind_left found.par found.number j has.q.kind)
          → Part m opener branch (pos 0) p.kind (other.starts j)
      on has (takes_to_write raw size lo hi here long listed kind theirs) =
          let was = left_was_written _ _ has.q.kind size lo hi theirs in
          of_kind (WrittenRegion size lo hi) kind (record {
            region = regions.Parameter j;
            first = pos (4 * 0);
            count = size / 4;
            is = (
              whole raw size here long,
              of_parameter j has.q 0 size lo hi refl refl has.there (inr was) (λ e. was) (omega (arith, ints))
                  (omega (arith, ints)) place_is (let q = whole raw size here long in omega (arith, q)),
            );
          })
      on has (takes_to_read raw size lo hi here long listed kind theirs) =
          let was = left_was_region _ _ has.q.kind size lo hi theirs in
          of_kind (ReadRegion size lo hi) kind (record {
            region = regions.Parameter j;
            first = pos (4 * 0);
            count = size / 4;
            is = (
              whole raw size here long,
              of_parameter j has.q 0 size lo hi refl refl has.there was (λ e. absurd (cc)) (omega (arith, ints))
                  (omega (arith, ints)) place_is (let q = whole raw size here long in omega (arith, q)),
            );
          })
      on has (takes_nothing lo hi kind) =
          of_kind (Value lo hi) kind (record { region = regions.Frame; first = pos 0; count = 0; is = tt })
      on has (takes_channels count len ends kind theirs) =
          of_kind (Channels count len ends) kind (record { region = regions.Frame; first = pos 0; count = 0; is = tt })

  -- what the branch has its opener has lent it
  pub is_lent : IsLentBy m opener branch
  is_lent = record {
    lends = record {
      origin = alike.origin ∙ (let e : layout.origin ≡ place_in layout.origin (pos 0) = omega (arith, ints) in e);
      writes = λ k t. subst (λ (z : ℤ). rights.may_write_word m found.par.context z ≡ true) (from_zero k) (writes k t);
      reads = λ k t. subst (λ (z : ℤ). rights.may_read_word m found.par.context z ≡ true) (from_zero k) (reads k t);
      callee_reads = λ k t. written_readable m (context_of m found) k t;
      caller_reads = λ k t. written_readable m found.par.context k t;
      parts = part_of;
    };
    alike = alike;
    regions = λ j p size lo hi there kind.
        let has = has_of j p there in (has.q, has.there, written_region has size lo hi kind has.takes);
  }
    where
      from_zero : (k : ℤ) → k ≡ pos 0 +ℤ k
      from_zero k = omega (arith, ints)

      written_region : {j : ℕ} {p : Parameter} (has : HasOf j p) (size : ℕ) (lo hi : ℤ)
          → p.kind ≡ WrittenRegion size lo hi → Takes m found j p.kind (kind_left found.par found.number j has.q.kind)
          → has.q.kind ≡ WrittenRegion size lo hi
      written_region has size lo hi kind (takes_to_write raw n a b here long listed mine theirs) =
          let same : WrittenRegion n a b ≡ WrittenRegion size lo hi = sym mine ∙ kind in
          left_was_written _ _ has.q.kind size lo hi (theirs ∙ same)
      written_region has size lo hi kind (takes_to_read raw n a b here long listed mine theirs) =
          let same : ReadRegion n a b ≡ WrittenRegion size lo hi = sym mine ∙ kind in absurd (cc)
      written_region has size lo hi kind (takes_nothing a b mine) =
          let same : Value a b ≡ WrittenRegion size lo hi = sym mine ∙ kind in absurd (cc)
      written_region has size lo hi kind (takes_channels count len ends mine theirs) =
          let same : Channels count len ends ≡ WrittenRegion size lo hi = sym mine ∙ kind in absurd (cc)

-- what the branch has is lent it
pub branches_are_lent : BranchesAreLent
branches_are_lent m found layout other keeps is left alike = is_lent m found layout other keeps is left alike
