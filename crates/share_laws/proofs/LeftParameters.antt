-- What becomes of a parameter at a start: what the branch has of it, and what its starter has left.
use Rattle.std.proofs.Common.{◌≡◌, ℕ, zero, suc, ◌+◌, ◌||◌, Bool, true, false, if◌then◌else◌, inl, inr, ℤ, List, []}
use Rattle.std.proofs.Common.{◌∷◌, Option, Some, None, refl, sym, ap, ◌∙◌, subst, arith}
use Rattle.std.specs.Prelude.{slice_get, option_map, take}
use Rattle.std.specs.List.{list_any}
use Rattle.small_laws.proofs.Options.{same_some}
use Rattle.word_arithmetic.specs.Word.{least_word, greatest_word}
use Rattle.module_format.specs.declared.rows.Parameter.{Parameter}
use Rattle.module_format.specs.declared.rows.ParameterKind.{ParameterKind}
use Rattle.module_format.specs.declared.rows.ParameterKind.TheVariants.{Value, ReadRegion, WrittenRegion, Channels}
use Rattle.module_format.specs.declared.rows.Ends.{Ends}
use Rattle.module_format.specs.Contents.{Contents, Par, Branch}
use Rattle.module_format.specs.Contexts.{parameters_at}
use Rattle.certificate.specs.Branches.{numbered_branch}
use Rattle.machine_state.specs.BranchContexts.{context_of}
use Rattle.machine_state.specs.BranchShares.{region_size}
use Rattle.machine_state.specs.JoinLookups.{Found}
use Rattle.rulings.specs.Lends.{IsRegionKind}
use Rattle.rulings.specs.Meaning.{Layout}
use Rattle.rulings.specs.Reach.{is_listed, may_write_parameter, may_read_parameter}
use Rattle.rulings.specs.Regions.{kind_used, parameter_used, scope_of, scope_left}
use Rattle.rulings.specs.Remaining.{only_read, not_used, kind_left, some_started, parameter_given_to_write}
use Rattle.rulings.specs.Remaining.{parameter_given_to_read}
use Rattle.share_laws.specs.Shares.{IsBranch}
use Rattle.share_laws.specs.Starts.{IsLeft}

-- ---- one branch more is started

-- one item more is taken: one of those before passes, or this one
any_taken : {A : Type 0} (test : A → Bool) (xs : List A) (n : ℕ) (x : A) → slice_get xs n ≡ Some x
    → list_any test (take (suc n) xs) ≡ (list_any test (take n xs) || test x)
any_taken test [] n x h = absurd (cc)
any_taken test (y ∷ xs) zero x h = let same : y ≡ x = cc in ap (λ z. test z || false) same ∙ last (test x)
  where
    last : (b : Bool) → (b || false) ≡ b
    last true = refl
    last false = refl
any_taken test (y ∷ xs) (suc n) x h =
    ap (λ b. test y || b) (any_taken test xs n x h) ∙ further (test y) (list_any test (take n xs)) (test x)
  where
    further : (a b c : Bool) → (a || (b || c)) ≡ ((a || b) || c)
    further true b c = refl
    further false b c = refl

-- some of the branches that are started then pass a test: one did before, or this one does
pub one_more : (par : Par) (n : ℕ) (b : Branch) (test : Branch → Bool) → slice_get par.branches n ≡ Some b
    → some_started par (n + 1) test ≡ (some_started par n test || test b)
one_more par n b test here =
    let e : n + 1 ≡ suc n = omega arith in
    ap (λ k. some_started par k test) e ∙ any_taken test par.branches n b here

-- ---- kinds

-- what a context has of a parameter, by what it may do with it
abbrev pub used_by : Bool → Bool → ParameterKind → ParameterKind
used_by writes reads kind = if writes then kind else if reads then only_read kind else not_used kind

-- what is left of it, by what is given
abbrev pub left_by : Bool → Bool → ParameterKind → ParameterKind
left_by written read kind = if written then not_used kind else if read then only_read kind else kind

-- What a branch has of a parameter, by its row, and what its starter had left of it.
pub data Takes (m : Contents) (found : Found) (j : ℕ) (mine theirs : ParameterKind) : Type 0 where
  takes_to_write : (raw : Parameter) (size : ℕ) (lo hi : ℤ) → slice_get (parameters_at m found.par.context) j ≡ Some raw
      → region_size raw.kind ≡ size → is_listed found.branch.written_parameters j ≡ true
      → mine ≡ WrittenRegion size lo hi → theirs ≡ WrittenRegion size lo hi → Takes m found j mine theirs
  takes_to_read : (raw : Parameter) (size : ℕ) (lo hi : ℤ) → slice_get (parameters_at m found.par.context) j ≡ Some raw
      → region_size raw.kind ≡ size → is_listed found.branch.read_parameters j ≡ true
      → mine ≡ ReadRegion size lo hi → IsRegionKind theirs size lo hi → Takes m found j mine theirs
  takes_nothing : (lo hi : ℤ) → mine ≡ Value lo hi → Takes m found j mine theirs
  takes_channels : (count len : ℕ) (ends : Ends) → mine ≡ Channels count len ends
      → theirs ≡ Channels count len ends → Takes m found j mine theirs

-- What a starter has left of a parameter after one start more, and before it.
pub data Remains (found : Found) (j : ℕ) (mine theirs : ParameterKind) : Type 0 where
  still_written : (size : ℕ) (lo hi : ℤ) → is_listed found.branch.written_parameters j ≡ false
      → is_listed found.branch.read_parameters j ≡ false → mine ≡ WrittenRegion size lo hi
      → theirs ≡ WrittenRegion size lo hi → Remains found j mine theirs
  still_read : (size : ℕ) (lo hi : ℤ) → is_listed found.branch.written_parameters j ≡ false
      → mine ≡ ReadRegion size lo hi → IsRegionKind theirs size lo hi → Remains found j mine theirs
  nothing_left : (lo hi : ℤ) → mine ≡ Value lo hi → Remains found j mine theirs
  still_channels : (count len : ℕ) (ends : Ends) → mine ≡ Channels count len ends
      → theirs ≡ Channels count len ends → Remains found j mine theirs

module _ (found : Found) (j : ℕ) where
  -- of a region that may be read, and is not written by a branch that is started, the bytes may be read
  left_to_read : (kind : ParameterKind) (size : ℕ) (lo hi : ℤ) (read : Bool) → IsRegionKind kind size lo hi
      → IsRegionKind (left_by false read kind) size lo hi
  left_to_read kind size lo hi true (inl is) = inl (ap only_read is)
  left_to_read kind size lo hi true (inr is) = inl (ap only_read is)
  left_to_read kind size lo hi false is = is

  -- a region is left to write, to read, or not at all
  remains_of_region : (size : ℕ) (lo hi : ℤ) (kind : ParameterKind) (gw gr lw lr : Bool)
      → is_listed found.branch.written_parameters j ≡ lw → is_listed found.branch.read_parameters j ≡ lr
      → IsRegionKind kind size lo hi
      → Remains found j (left_by (gw || lw) (gr || lr) kind) (left_by gw gr kind)
  remains_of_region size lo hi kind true gr lw lr w r (inl is) =
      nothing_left least_word greatest_word (ap not_used is)
  remains_of_region size lo hi kind true gr lw lr w r (inr is) =
      nothing_left least_word greatest_word (ap not_used is)
  remains_of_region size lo hi kind false gr true lr w r (inl is) =
      nothing_left least_word greatest_word (ap not_used is)
  remains_of_region size lo hi kind false gr true lr w r (inr is) =
      nothing_left least_word greatest_word (ap not_used is)
  remains_of_region size lo hi kind false true false lr w r (inl is) =
      still_read size lo hi w (ap only_read is) (inl (ap only_read is))
  remains_of_region size lo hi kind false true false lr w r (inr is) =
      still_read size lo hi w (ap only_read is) (inl (ap only_read is))
  remains_of_region size lo hi kind false false false true w r (inl is) =
      still_read size lo hi w (ap only_read is) (inl is)
  remains_of_region size lo hi kind false false false true w r (inr is) =
      still_read size lo hi w (ap only_read is) (inr is)
  remains_of_region size lo hi kind false false false false w r (inl is) =
      still_read size lo hi w is (inl is)
  remains_of_region size lo hi kind false false false false w r (inr is) =
      still_written size lo hi w r is is

  -- of what names no region nothing is taken
  same_left : (written read : Bool) (kind : ParameterKind) → only_read kind ≡ kind → not_used kind ≡ kind
      → left_by written read kind ≡ kind
  same_left true read kind o n = n
  same_left false true kind o n = o
  same_left false false kind o n = refl

  -- so of every kind
  remains : (kind : ParameterKind) (gw gr : Bool)
      → Remains found j (left_by (gw || is_listed found.branch.written_parameters j)
      (gr || is_listed found.branch.read_parameters j) kind) (left_by gw gr kind)
  remains (Value lo hi) gw gr = nothing_left lo hi (same_left _ _ (Value lo hi) refl refl)
  remains (ReadRegion size lo hi) gw gr =
      remains_of_region size lo hi (ReadRegion size lo hi) gw gr _ _ refl refl (inl refl)
  remains (WrittenRegion size lo hi) gw gr =
      remains_of_region size lo hi (WrittenRegion size lo hi) gw gr _ _ refl refl (inr refl)
  remains (Channels count len ends) gw gr = still_channels count len ends
      (same_left _ _ (Channels count len ends) refl refl) (same_left gw gr (Channels count len ends) refl refl)

-- ---- what the starter has left

module _ (m : Contents) (found : Found) (layout : Layout) (is : IsBranch m found) where
  abbrev context : ℕ
  context = found.par.context

  -- a parameter that is left after the start, as it was before it
  pub record Kept (j : ℕ) (mine : Parameter) : Type 0 where
    pub theirs : Parameter
    pub found_there : (scope_left m found.par found.par.context found.number layout).parameters j ≡ Some theirs
    pub remains : Remains found j mine.kind theirs.kind

  -- each parameter that is left was there
  pub kept : (j : ℕ) (p : Parameter)
      → (scope_left m found.par found.par.context (found.number + 1) layout).parameters j ≡ Some p → Kept j p
  kept j p there = on (parameter_used m context j) refl there
    where
      given : (test : Branch → Bool) → some_started found.par (found.number + 1) test
          ≡ (some_started found.par found.number test || test found.branch)
      given test = one_more found.par found.number found.branch test is.branch

      of_kind : (kind : ParameterKind)
          → Remains found j (kind_left found.par (found.number + 1) j kind) (kind_left found.par found.number j kind)
      of_kind kind =
          subst (λ (w : Bool). Remains found j
          (left_by w (parameter_given_to_read found.par (found.number + 1) j) kind)
          (kind_left found.par found.number j kind)) (sym (given (λ b. is_listed b.written_parameters j)))
          (subst (λ (r : Bool). Remains found j
          (left_by (parameter_given_to_write found.par found.number j || is_listed found.branch.written_parameters j) r
          kind)
          (kind_left found.par found.number j kind)) (sym (given (λ b. is_listed b.read_parameters j)))
          (remains found j kind (parameter_given_to_write found.par found.number j)
          (parameter_given_to_read found.par found.number j)))

      on : (o : Option Parameter) → parameter_used m context j ≡ o
          → option_map (λ (p : Parameter). record p { kind = kind_left found.par (found.number + 1) j p.kind }) o
          ≡ Some p → Kept j p
      on None e h = absurd (cc)
      on (Some q) e h =
          let same : ◌≡◌ {A = Option Parameter}
          (Some (record q { kind = kind_left found.par (found.number + 1) j q.kind })) (Some p) = h in
          let is_p : (record q { kind = kind_left found.par (found.number + 1) j q.kind }) ≡ p =
          same_some _ _ p refl h in
          record {
            theirs = record q { kind = kind_left found.par found.number j q.kind };
            found_there = ap (option_map (λ (p : Parameter).
                record p { kind = kind_left found.par found.number j p.kind })) e;
            remains = subst (λ (x : Parameter). Remains found j x.kind (kind_left found.par found.number j q.kind)) is_p
                (of_kind q.kind);
          }

-- ---- what the branch has

module _ (found : Found) (m : Contents) (j : ℕ) (raw : Parameter)
    (there : slice_get (parameters_at m found.par.context) j ≡ Some raw) where
  -- whatever a branch that names it so may do, and what its starter has left
  takes_of_read : (size : ℕ) (lo hi : ℤ) (kind : ParameterKind) → raw.kind ≡ kind → IsRegionKind kind size lo hi
      → region_size kind ≡ size → is_listed found.branch.read_parameters j ≡ true → (writes read : Bool)
      → Takes m found j (only_read kind) (left_by false read (used_by writes true kind))
  takes_of_read size lo hi kind raw_is is long listed writes read =
      takes_to_read raw size lo hi there (ap region_size raw_is ∙ long) listed (read_kind is)
      (left_to_read found j (used_by writes true kind) size lo hi read (used writes is))
    where
      read_kind : IsRegionKind kind size lo hi → only_read kind ≡ ReadRegion size lo hi
      read_kind (inl e) = ap only_read e
      read_kind (inr e) = ap only_read e

      used : (writes : Bool) → IsRegionKind kind size lo hi → IsRegionKind (used_by writes true kind) size lo hi
      used true is = is
      used false (inl e) = inl (ap only_read e)
      used false (inr e) = inl (ap only_read e)

module _ (m : Contents) (found : Found) (layout : Layout)
    (numbered : numbered_branch m (context_of m found) ≡ Some (found.par, found.branch))
    (same_parameters : parameters_at m (context_of m found) ≡ parameters_at m found.par.context)
    (left : IsLeft m found) where
  -- a parameter of the branch, as its starter has it left
  pub record Taken (j : ℕ) (mine : Parameter) : Type 0 where
    pub theirs : Parameter
    pub found_there : (scope_left m found.par found.par.context found.number layout).parameters j ≡ Some theirs
    pub takes : Takes m found j mine.kind theirs.kind

  module _ (j : ℕ) (raw : Parameter) (there : slice_get (parameters_at m found.par.context) j ≡ Some raw) where
    abbrev theirs_is : ParameterKind → ParameterKind
    theirs_is kind = kind_left found.par found.number j (kind_used m found.par.context j kind)

    -- of what names no region all have the same
    same_used : (w r : Bool) (kind : ParameterKind) → only_read kind ≡ kind → not_used kind ≡ kind
        → used_by w r kind ≡ kind
    same_used true r kind o n = refl
    same_used false true kind o n = o
    same_used false false kind o n = n

    no_region : (kind : ParameterKind) → only_read kind ≡ kind → not_used kind ≡ kind → theirs_is kind ≡ kind
    no_region kind o n =
        ap (kind_left found.par found.number j) (same_used (may_write_parameter m found.par.context j)
        (may_read_parameter m found.par.context j) kind o n)
        ∙ same_left found j (parameter_given_to_write found.par found.number j)
        (parameter_given_to_read found.par found.number j) kind o n

    to_write : (size : ℕ) (lo hi : ℤ) → raw.kind ≡ WrittenRegion size lo hi
        → is_listed found.branch.written_parameters j ≡ true
        → Takes m found j raw.kind (theirs_is raw.kind)
    to_write size lo hi kind listed =
        let l = left.written j listed in
        takes_to_write raw size lo hi there (ap region_size kind) listed kind
        (ap (λ (b : Bool). left_by b (parameter_given_to_read found.par found.number j)
        (kind_used m found.par.context j raw.kind)) l.written
        ∙ ap (λ (b : Bool). left_by false b (kind_used m found.par.context j raw.kind)) l.read
        ∙ ap (λ (b : Bool). used_by b (may_read_parameter m found.par.context j) raw.kind) l.may ∙ kind)

    to_read : (size : ℕ) (lo hi : ℤ) → IsRegionKind raw.kind size lo hi → region_size raw.kind ≡ size
        → is_listed found.branch.read_parameters j ≡ true
        → Takes m found j (only_read raw.kind) (theirs_is raw.kind)
    to_read size lo hi kind long listed =
        let l = left.read j listed in
        subst (λ (b : Bool). Takes m found j (only_read raw.kind) (left_by b
        (parameter_given_to_read found.par found.number j) (kind_used m found.par.context j raw.kind))) (sym l.written)
        (subst (λ (b : Bool). Takes m found j (only_read raw.kind)
        (left_by false (parameter_given_to_read found.par found.number j)
        (used_by (may_write_parameter m found.par.context j) b raw.kind))) (sym l.may)
        (takes_of_read found m j raw there size lo hi raw.kind refl kind long listed
        (may_write_parameter m found.par.context j) (parameter_given_to_read found.par found.number j)))

    -- what is written is a region that is left to write
    must_be : is_listed found.branch.written_parameters j ≡ true
        → (size : ℕ) × (lo : ℤ) × (hi : ℤ) × (raw.kind ≡ WrittenRegion size lo hi)
    must_be listed =
        let l = left.written j listed in
        let same = same_some (slice_get (parameters_at m found.par.context) j) raw l.parameter there l.found in
        (l.size, l.lo, l.hi, ap (λ (p : Parameter). p.kind) same ∙ l.kind)

    on_lists : (kind : ParameterKind) → raw.kind ≡ kind → (w r : Bool)
        → is_listed found.branch.written_parameters j ≡ w → (is_listed found.branch.read_parameters j ≡ r)
        → Takes m found j (used_by w (w || r) raw.kind) (theirs_is raw.kind)
    on_lists kind is true r e f = let l = must_be e in to_write l.0 l.1 l.2 l.3 e
    on_lists (Value lo hi) is false r e f = takes_nothing lo hi
        (ap (used_by false r) is ∙ same_used false r (Value lo hi) refl refl)
    on_lists (Channels count len ends) is false r e f = takes_channels count len ends
        (ap (used_by false r) is ∙ same_used false r (Channels count len ends) refl refl)
        (ap theirs_is is ∙ no_region (Channels count len ends) refl refl)
    on_lists (ReadRegion size lo hi) is false true e f = to_read size lo hi (inl is) (ap region_size is) f
    on_lists (WrittenRegion size lo hi) is false true e f = to_read size lo hi (inr is) (ap region_size is) f
    on_lists (ReadRegion size lo hi) is false false e f = takes_nothing least_word greatest_word (ap not_used is)
    on_lists (WrittenRegion size lo hi) is false false e f = takes_nothing least_word greatest_word (ap not_used is)

  -- a branch may write the parameters that its row lists so
  writes_by : (j : ℕ) → may_write_parameter m (context_of m found) j ≡ is_listed found.branch.written_parameters j
  writes_by j = ap (λ (o : Option (Par × Branch)). elim o as (λ o. Bool) [
    | None ↦ true
    | Some found ↦ is_listed found.1.written_parameters j
  ]) numbered

  -- and read those that it lists
  reads_by : (j : ℕ) → may_read_parameter m (context_of m found) j
      ≡ (is_listed found.branch.written_parameters j || is_listed found.branch.read_parameters j)
  reads_by j = ap (λ (o : Option (Par × Branch)). elim o as (λ o. Bool) [
    | None ↦ true
    | Some found ↦ is_listed found.1.written_parameters j || is_listed found.1.read_parameters j
  ]) numbered

  -- each parameter of a branch is left
  pub taken : (j : ℕ) (p : Parameter) → (scope_of m (context_of m found) layout).parameters j ≡ Some p → Taken j p
  taken j p there = on (slice_get (parameters_at m found.par.context) j) refl
      (sym (ap (λ (ps : List Parameter). option_map (λ (p : Parameter). record p {
        kind = kind_used m (context_of m found) j p.kind;
      }) (slice_get ps j)) same_parameters) ∙ there)
    where
      kind_by : (raw : Parameter) → slice_get (parameters_at m found.par.context) j ≡ Some raw
          → Takes m found j (kind_used m (context_of m found) j raw.kind)
          (kind_left found.par found.number j (kind_used m found.par.context j raw.kind))
      kind_by raw here =
          subst (λ (w : Bool). Takes m found j (used_by w (may_read_parameter m (context_of m found) j) raw.kind)
          (kind_left found.par found.number j (kind_used m found.par.context j raw.kind))) (sym (writes_by j))
          (subst (λ (r : Bool). Takes m found j (used_by (is_listed found.branch.written_parameters j) r raw.kind)
          (kind_left found.par found.number j (kind_used m found.par.context j raw.kind))) (sym (reads_by j))
          (on_lists j raw here raw.kind refl (is_listed found.branch.written_parameters j)
          (is_listed found.branch.read_parameters j) refl refl))

      on : (o : Option Parameter) → slice_get (parameters_at m found.par.context) j ≡ o
          → option_map (λ (p : Parameter). record p { kind = kind_used m (context_of m found) j p.kind }) o ≡ Some p
          → Taken j p
      on None e h = absurd (cc)
      on (Some raw) e h =
          let is_p : (record raw { kind = kind_used m (context_of m found) j raw.kind }) ≡ p = same_some _ _ p refl h in
          record {
            theirs = record raw {
              kind = kind_left found.par found.number j (kind_used m found.par.context j raw.kind);
            };
            found_there = ap (λ (o : Option Parameter). option_map (λ (p : Parameter).
                record p { kind = kind_left found.par found.number j p.kind })
                (option_map (λ (p : Parameter). record p { kind = kind_used m found.par.context j p.kind }) o)) e;
            takes = subst (λ (x : Parameter). Takes m found j x.kind
                (kind_left found.par found.number j (kind_used m found.par.context j raw.kind))) is_p (kind_by raw e);
          }

-- ---- regions that a row lists

-- a region that a row lists, as its starter has it left
pub record IsRegionLeft (m : Contents) (found : Found) (layout : Layout) (j : ℕ) (raw : Parameter) : Type 0 where
  pub theirs : Parameter
  pub size : ℕ
  pub lo : ℤ
  pub hi : ℤ
  pub found_there : (scope_left m found.par found.par.context found.number layout).parameters j ≡ Some theirs
  pub kind : IsRegionKind theirs.kind size lo hi
  pub long : region_size raw.kind ≡ size

module _ (m : Contents) (found : Found) (layout : Layout) (left : IsLeft m found) (j : ℕ) (raw : Parameter)
    (there : slice_get (parameters_at m found.par.context) j ≡ Some raw) where
  abbrev left_parameter : Parameter
  left_parameter = record raw {
    kind = left_by (parameter_given_to_write found.par found.number j)
        (parameter_given_to_read found.par found.number j)
        (used_by (may_write_parameter m found.par.context j) (may_read_parameter m found.par.context j) raw.kind);
  }

  -- the parameter is in the scope of what is left
  left_there : (scope_left m found.par found.par.context found.number layout).parameters j ≡ Some left_parameter
  left_there = ap (λ (o : Option Parameter). option_map (λ (p : Parameter).
      record p { kind = kind_left found.par found.number j p.kind })
      (option_map (λ (p : Parameter). record p { kind = kind_used m found.par.context j p.kind }) o)) there

  -- a region that the branch writes is one that the starter may write
  pub written_left : is_listed found.branch.written_parameters j ≡ true
      → (region : IsRegionLeft m found layout j raw) × (region.theirs.kind ≡ WrittenRegion region.size region.lo
      region.hi)
  written_left listed =
      let l = left.written j listed in
      let same = same_some (slice_get (parameters_at m found.par.context) j) raw l.parameter there l.found in
      let kind : raw.kind ≡ WrittenRegion l.size l.lo l.hi = ap (λ (p : Parameter). p.kind) same ∙ l.kind in
      let is : left_parameter.kind ≡ WrittenRegion l.size l.lo l.hi =
      ap (λ (b : Bool). left_by b (parameter_given_to_read found.par found.number j)
      (used_by (may_write_parameter m found.par.context j) (may_read_parameter m found.par.context j) raw.kind))
      l.written
      ∙ ap (λ (b : Bool). left_by false b
      (used_by (may_write_parameter m found.par.context j) (may_read_parameter m found.par.context j) raw.kind)) l.read
      ∙ ap (λ (b : Bool). used_by b (may_read_parameter m found.par.context j) raw.kind) l.may ∙ kind in (
        record {
          theirs = left_parameter;
          size = l.size;
          lo = l.lo;
          hi = l.hi;
          found_there = left_there;
          kind = inr is;
          long = ap region_size kind;
        },
        is,
      )

  -- a region that it reads is one that the starter may read
  pub read_left : (size : ℕ) (lo hi : ℤ) → IsRegionKind raw.kind size lo hi → region_size raw.kind ≡ size
      → is_listed found.branch.read_parameters j ≡ true → IsRegionLeft m found layout j raw
  read_left size lo hi kind long listed =
      let l = left.read j listed in
      record {
        theirs = left_parameter;
        size = size;
        lo = lo;
        hi = hi;
        found_there = left_there;
        kind = subst (λ (b : Bool). IsRegionKind (left_by b (parameter_given_to_read found.par found.number j)
            (used_by (may_write_parameter m found.par.context j) (may_read_parameter m found.par.context j) raw.kind))
            size lo hi) (sym l.written)
            (left_to_read found j _ size lo hi (parameter_given_to_read found.par found.number j)
            (subst (λ (b : Bool). IsRegionKind (used_by (may_write_parameter m found.par.context j) b raw.kind)
            size lo hi) (sym l.may) (used (may_write_parameter m found.par.context j) kind)));
        long = long;
      }
    where
      used : (writes : Bool) → IsRegionKind raw.kind size lo hi → IsRegionKind (used_by writes true raw.kind) size lo hi
      used true is = is
      used false (inl e) = inl (ap only_read e)
      used false (inr e) = inl (ap only_read e)
