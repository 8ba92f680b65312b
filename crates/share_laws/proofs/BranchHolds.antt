-- A branch that is started has its frame, and holds what its context names.
use Rattle.std.proofs.Common.{◌≡◌, ℕ, ◌+◌, ◌-◌, ◌<◌, ◌≤◌, ◌&&◌, ◌||◌, not, Bool, true, false, ◌⊎◌, inl, inr, ℤ, pos}
use Rattle.std.proofs.Common.{◌+ℤ◌, ◌≤ℤ◌, negsuc, List, length, Option, Some, None, refl, sym, ap, ◌∙◌, subst, arith}
use Rattle.std.proofs.lemmas.Bool.{cases_lt, lt-ltb, ltb-true, and_parts, or_cases}
use Rattle.std.proofs.lemmas.Int.{ints}
use Rattle.std.specs.Prelude.{slice_get, nat_lt}
use Rattle.module_format.specs.declared.contexts.Context.{Context}
use Rattle.module_format.specs.declared.rows.Direction.{Direction}
use Rattle.module_format.specs.declared.rows.EndKind.{EndKind}
use Rattle.module_format.specs.declared.rows.EndKind.TheVariants as ends
use Rattle.module_format.specs.declared.rows.Parameter.{Parameter}
use Rattle.module_format.specs.declared.rows.ParameterKind.{ParameterKind}
use Rattle.module_format.specs.declared.rows.ParameterKind.TheVariants.{Channels}
use Rattle.module_format.specs.Contents.{Contents, Par, Branch}
use Rattle.certificate.proofs.AroundLaws.{length_of_some}
use Rattle.certificate.specs.Around.{nearer}
use Rattle.certificate.specs.Rights as rights
use Rattle.certificate.specs.Rights.{is_among, listed_length, channel_length}
use Rattle.machine_state.specs.declared.holding.End.{End}
use Rattle.machine_state.specs.BranchContexts.{context_of, IsContextOf}
use Rattle.machine_state.specs.BranchShares.{frame_address}
use Rattle.machine_state.specs.Holding.{Holding, may_write, may_read, has_end}
use Rattle.machine_state.specs.JoinLookups.{Found}
use Rattle.machine_state.specs.Memory.{Memory, place_of, data_start}
use Rattle.machine_state.specs.Ownership.{IsAmong}
use Rattle.machine_state.specs.Spans.{Share, writes_place, reads_place}
use Rattle.machine_state.specs.World.{constants_start}
use Rattle.machine_state.proofs.Among.{mapped_among}
use Rattle.machine_state.proofs.Shares.{end_held}
use Rattle.machine_state.proofs.SpanLaws.{runs_tell}
use Rattle.rulings.specs.Channels.{message_length}
use Rattle.rulings.specs.Lends.{IsRegionKind}
use Rattle.rulings.specs.Meaning.{Layout, HasFrame, IsOwnWord, IsReadableWord, place_in, words_in, frame_lo, frame_hi}
use Rattle.rulings.specs.Regions.{Scope, scope_of, scope_left, IsHeldRegion, IsNamed, HoldsNamed, IsWrittenAt}
use Rattle.rulings.specs.Regions.{IsNamedAt}
use Rattle.rulings.specs.Regions.{HasConstants, channel_address, length_left}
use Rattle.rulings.proofs.Combining.{readable_byte, readable}
use Rattle.rulings.proofs.Words.{moved_workspace}
use Rattle.share_laws.specs.Shares.{of_word, of_region, end_at}
use Rattle.share_laws.specs.Starts.{CanStart, held_by_branch, BranchesHoldTheirShares}
use Rattle.share_laws.proofs.Rows.{has_context, workspace_fits}
use Rattle.share_laws.proofs.RowEnds.{ends_of_branch}
use Rattle.share_laws.proofs.LeftBytes.{byte_of, word_of_bytes, word_to_read, given_written, given_constant, given_read}
use Rattle.share_laws.proofs.LeftBytes.{region_to_read, share, of_words, branch_word_left, taken_by, written_held}
use Rattle.share_laws.proofs.LeftBytes.{read_held}
use Rattle.share_laws.proofs.LeftParameters.{Takes, takes_to_write, takes_to_read, takes_nothing, takes_channels}

-- what is written of a parameter, and what is named, is that of the starter's
takes_written : {m : Contents} {found : Found} {j : ℕ} {mine theirs : ParameterKind} (start place : ℕ)
    → Takes m found j mine theirs → IsWrittenAt mine start place → IsWrittenAt theirs start place
takes_written start place (takes_to_write raw size lo hi here long listed mine theirs) at =
    subst (λ (k : ParameterKind). IsWrittenAt k start place) (sym theirs)
    (subst (λ (k : ParameterKind). IsWrittenAt k start place) mine at)
takes_written start place (takes_to_read raw size lo hi here long listed mine theirs) at =
    absurd (subst (λ (k : ParameterKind). IsWrittenAt k start place) mine at)
takes_written start place (takes_nothing lo hi mine) at =
    absurd (subst (λ (k : ParameterKind). IsWrittenAt k start place) mine at)
takes_written start place (takes_channels count len ends mine theirs) at =
    absurd (subst (λ (k : ParameterKind). IsWrittenAt k start place) mine at)

-- a byte of a region is one of what its parameter names
named_region : (theirs : ParameterKind) (size start place : ℕ) (lo hi : ℤ) → IsRegionKind theirs size lo hi
    → (place_of start ≤ place) × (place < place_of start + size) → IsNamedAt theirs start place
named_region theirs size start place lo hi (inl is) at =
    subst (λ (k : ParameterKind). IsNamedAt k start place) (sym is) at
named_region theirs size start place lo hi (inr is) at =
    subst (λ (k : ParameterKind). IsNamedAt k start place) (sym is) at

-- and what is named of it
takes_named : {m : Contents} {found : Found} {j : ℕ} {mine theirs : ParameterKind} (start place : ℕ)
    → Takes m found j mine theirs → IsNamedAt mine start place → IsNamedAt theirs start place
takes_named {theirs = theirs} start place (takes_to_write raw size lo hi here long listed mine is) at =
    named_region theirs size start place lo hi (inr is)
    (subst (λ (k : ParameterKind). IsNamedAt k start place) mine at)
takes_named {theirs = theirs} start place (takes_to_read raw size lo hi here long listed mine is) at =
    named_region theirs size start place lo hi is (subst (λ (k : ParameterKind). IsNamedAt k start place) mine at)
takes_named start place (takes_nothing lo hi mine) at =
    absurd (subst (λ (k : ParameterKind). IsNamedAt k start place) mine at)
takes_named start place (takes_channels count len ends mine theirs) at =
    absurd (subst (λ (k : ParameterKind). IsNamedAt k start place) mine at)

module _ (m : Contents) (found : Found) (layout : Layout) (base : ℕ) (addresses : List (Option ℕ))
    (h : Holding) (memory : Memory) (depth : ℤ) (workspace : ℕ)
    (s : CanStart m found layout base addresses h memory depth workspace) where
  abbrev mine : Holding
  mine = held_by_branch m found base addresses (length memory)

  abbrev context : ℕ
  context = context_of m found

  abbrev left_scope : Scope
  left_scope = scope_left m found.par found.par.context found.number layout

  abbrev gift : Share
  gift = share m found layout base addresses h memory depth workspace s

  abbrev size : ℕ
  size = length memory

  -- the branch's context
  stands : IsContextOf m found
  stands = has_context m found s.keeps s.is

  -- ---- words

  -- a word that the branch may write is one that its row gives it to write
  is_written : (k : ℤ) → rights.may_write_word m (context_of m found) k ≡ true → is_among found.branch.writes k ≡ true
  is_written k t =
      sym (ap (λ (o : Option (Par × Branch)). elim o as (λ o. Bool) [
        | None ↦ true
        | Some found ↦ is_among found.1.writes k
      ]) stands.numbered) ∙ (and_parts _ _ t).1

  -- one that it may read is given it to write or to read
  is_read : (k : ℤ) → rights.may_read_word m (context_of m found) k ≡ true
      → (is_among found.branch.writes k ≡ true) ⊎ (is_among found.branch.reads k ≡ true)
  is_read k t = or_cases (is_among found.branch.writes k) (is_among found.branch.reads k)
      (sym (ap (λ (o : Option (Par × Branch)). elim o as (λ o. Bool) [
        | None ↦ true
        | Some found ↦ is_among found.1.writes k || is_among found.1.reads k
      ]) stands.numbered) ∙ (and_parts _ _ t).1)

  -- a word that the branch may read is one that the starter had left to read
  counts : (k : ℤ) → rights.may_read_word m (context_of m found) k ≡ true → left_scope.words.reads k ≡ true
  counts k t = elim (is_read k t) [
    | inl w ↦ branch_word_left m found layout base addresses h memory depth workspace s k w
    | inr r ↦ s.left.reads k r
  ]

  -- a word that is given to write is the branch's own
  own_word : (k : ℤ) → is_among found.branch.writes k ≡ true → IsOwnWord mine size layout.origin k
  own_word k among =
      let w = s.frame.own k (s.left.writes k among) in
      record {
        place = w.place;
        is = w.is;
        inside = w.inside;
        mine = word_of_bytes mine w.place (λ i low. given_written m size gift (w.place + i)
            (let inside = w.inside in omega arith)
            ((of_words m found layout base addresses h memory depth workspace s).writes (w.place + i)
            (of_word k among (byte_of layout.origin k w.place i w.is low))));
      }

  -- one that is given to read may be read
  readable_word : (k : ℤ) → is_among found.branch.reads k ≡ true → IsReadableWord mine size layout.origin k
  readable_word k among =
      let w = s.frame.readable k (s.left.reads k among) in
      record {
        place = w.place;
        is = w.is;
        inside = w.inside;
        readable = word_to_read mine w.place (λ i low. given_read m size gift (w.place + i)
            (let inside = w.inside in omega arith)
            ((of_words m found layout base addresses h memory depth workspace s).reads (w.place + i)
            (of_word k among (byte_of layout.origin k w.place i w.is low))));
      }

  -- the branch has its frame
  branch_frame : HasFrame mine (length memory) (words_in m (context_of m found)) layout.origin found.branch.workspace
      (frame_address base found.branch.workspace)
  branch_frame = record {
    small = s.frame.small;
    from_start = subst (λ (z : ℤ). pos 0 ≤ℤ place_in layout.origin z) (sym lo_is) s.frame.from_start;
    to_end = subst (λ (z : ℤ). place_in layout.origin z ≤ℤ pos (length memory)) (sym hi_is) s.frame.to_end;
    own = λ k t. own_word k (is_written k t);
    readable = λ k t. elim (is_read k t) [
      | inl w ↦
          let o = own_word k w in
          record { place = o.place; is = o.is; inside = o.inside; readable = readable mine o.place o.mine }
      | inr r ↦ readable_word k r
    ];
    start = at;
  }
    where
      lo_is : frame_lo m (context_of m found) ≡ frame_lo m found.par.context
      lo_is = ap (λ (o : Option Context). elim o as (λ o. ℤ) [ None ↦ pos 0 | Some context ↦ context.lo ])
          stands.context

      hi_is : frame_hi m (context_of m found) ≡ frame_hi m found.par.context
      hi_is = ap (λ (o : Option Context). elim o as (λ o. ℤ) [ None ↦ pos 0 | Some context ↦ context.hi ])
          stands.context

      at : pos (frame_address base found.branch.workspace)
          ≡ pos data_start +ℤ place_in layout.origin found.branch.workspace
      at =
          let w = s.frame.own (found.branch.workspace +ℤ negsuc 0)
          (s.left.writes (found.branch.workspace +ℤ negsuc 0) (s.left.scheduling 0 (omega arith))) in
          let is = w.is in
          let inside = w.inside in
          let small = s.frame.small in
          let origin_is = s.laid.origin in
          let moved = moved_workspace base layout.origin (pos 0) found.branch.workspace
          (workspace_fits m found s.keeps s.is) (omega (arith, ints, origin_is)) (omega (arith, ints, is))
          (omega (arith, ints, is, inside, small)) in
          omega (arith, ints, moved)

  -- ---- what parameters name

  -- it holds what each parameter names, as its row lists it
  branch_each : (j : ℕ) (p : Parameter) → (scope_of m (context_of m found) layout).parameters j ≡ Some p
      → IsNamed m mine (scope_of m (context_of m found) layout) memory p.kind (layout.starts j)
  branch_each j p there =
      let t = taken_by m found layout base addresses h memory depth workspace s j p there in
      on t.theirs.kind t.takes (s.named.each j t.theirs t.found_there)
    where
      name : ParameterKind → Type 0
      name kind = IsNamed m mine (scope_of m (context_of m found) layout) memory kind (layout.starts j)

      on : (theirs : ParameterKind) → Takes m found j p.kind theirs
          → IsNamed m h left_scope memory theirs (layout.starts j)
          → IsNamed m mine (scope_of m (context_of m found) layout) memory p.kind (layout.starts j)
      on theirs (takes_to_write raw size lo hi here long listed kind is) named =
          let r : IsHeldRegion m (may_write h) left_scope memory (place_of (layout.starts j)) size lo hi =
          subst (λ (k : ParameterKind). IsNamed m h left_scope memory k (layout.starts j)) is named in
          let region : IsHeldRegion m (may_write mine) (scope_of m (context_of m found) layout) memory
          (place_of (layout.starts j)) size lo hi = record {
            aligned = r.aligned;
            whole = r.whole;
            held = λ i less. given_written m (length memory) gift (place_of (layout.starts j) + i)
                (s.inside (place_of (layout.starts j) + i)
                (readable_byte h (place_of (layout.starts j) + i) (r.held i less)))
                ((of_words m found layout base addresses h memory depth workspace s).writes
                (place_of (layout.starts j) + i)
                (of_region j raw listed here (omega arith) (omega (arith, less, long))));
            beside = λ k i t less b. r.beside k i (counts k t) less b;
            numbers = r.numbers;
          } in
          subst (λ (k : ParameterKind). IsNamed m mine (scope_of m (context_of m found) layout) memory k
          (layout.starts j)) (sym kind) region
      on theirs (takes_to_read raw size lo hi here long listed kind is) named =
          let r = region_to_read m h left_scope memory theirs (layout.starts j) size lo hi is named in
          let region : IsHeldRegion m (may_read mine) (scope_of m (context_of m found) layout) memory
          (place_of (layout.starts j)) size lo hi = record {
            aligned = r.aligned;
            whole = r.whole;
            held = λ i less. given_read m (length memory) gift (place_of (layout.starts j) + i)
                (s.inside (place_of (layout.starts j) + i) (r.held i less))
                ((of_words m found layout base addresses h memory depth workspace s).reads
                (place_of (layout.starts j) + i)
                (of_region j raw listed here (omega arith) (omega (arith, less, long))));
            beside = λ k i t less b. r.beside k i (counts k t) less b;
            numbers = r.numbers;
          } in
          subst (λ (k : ParameterKind). IsNamed m mine (scope_of m (context_of m found) layout) memory k
          (layout.starts j)) (sym kind) region
      on theirs (takes_nothing lo hi kind) named = subst (λ (k : ParameterKind).
          IsNamed m mine (scope_of m (context_of m found) layout) memory k (layout.starts j)) (sym kind) tt
      on theirs (takes_channels count len ends kind is) named = subst (λ (k : ParameterKind).
          IsNamed m mine (scope_of m (context_of m found) layout) memory k (layout.starts j)) (sym kind)
          (subst (λ (k : ParameterKind). IsNamed m h left_scope memory k (layout.starts j)) is named)

  -- what it writes of one parameter is none of another's
  branch_apart : (j k : ℕ) (p q : Parameter) → (scope_of m (context_of m found) layout).parameters j ≡ Some p
      → (scope_of m (context_of m found) layout).parameters k ≡ Some q → (j ≡ k → ⊥) → (place : ℕ)
      → IsWrittenAt p.kind (layout.starts j) place → IsNamedAt q.kind (layout.starts k) place → ⊥
  branch_apart j k p q here there differ place written named =
      let a = taken_by m found layout base addresses h memory depth workspace s j p here in
      let b = taken_by m found layout base addresses h memory depth workspace s k q there in
      s.named.apart j k a.theirs b.theirs a.found_there b.found_there differ place
      (takes_written (layout.starts j) place a.takes written) (takes_named (layout.starts k) place b.takes named)

  -- ---- constants and bytes

  -- what the branch may write its share has to write
  was_written : (x : ℕ) → may_write mine x ≡ true → may_write h x ≡ true
  was_written x own = written_held m found layout base addresses h memory depth workspace s x
      (runs_tell (writes_place gift) 0 (length memory) x own).passes

  -- what it may read its starter could read
  was_read : (x : ℕ) → may_read mine x ≡ true → may_read h x ≡ true
  was_read x own = elim (or_cases (may_write mine x) _ own) [
    | inl w ↦ readable_byte h x (was_written x w)
    | inr r ↦ elim (or_cases (reads_place gift x) _ (and_parts _ _ (runs_tell (λ place.
        not (writes_place gift place) && (reads_place gift place
        || (nat_lt place (constants_start m + length m.constants) && not (nat_lt place (constants_start m)))))
        0 (length memory) x r).passes).1) [
          | inl there ↦ read_held m found layout base addresses h memory depth workspace s x there
          | inr constant ↦
              let both = and_parts _ _ constant in
              constant_read (ltb-true x (constants_start m + length m.constants) both.0) both.1
        ]
  ]
    where
      cannot : {A : Type 0} (b : Bool) → b ≡ true → not b ≡ true → A
      cannot true e f = absurd (cc)
      cannot false e f = absurd (cc)

      constant_read : x < constants_start m + length m.constants → not (nat_lt x (constants_start m)) ≡ true
          → may_read h x ≡ true
      constant_read high low = elim (cases_lt x (constants_start m)) [
        | inl below ↦ cannot (nat_lt x (constants_start m)) (lt-ltb x (constants_start m) below) low
        | inr from ↦
            let at : constants_start m + (x - constants_start m) ≡ x = omega (arith, from) in
            subst (λ q. may_read h q ≡ true) at
            (s.named.constants.readable (x - constants_start m) (omega (arith, from, high)))
      ]

  -- it has the constants
  branch_constants : HasConstants m mine memory
  branch_constants = record {
    readable = λ i less. given_constant m (length memory) gift (constants_start m + i)
        (s.inside (constants_start m + i) (s.named.constants.readable i less)) (omega arith) (omega (arith, less));
    bytes = s.named.constants.bytes;
    behind = λ place own. s.named.constants.behind place (was_written place own);
  }

  -- ---- ends

  -- an end of its context is one that its row lists
  listed : (kind : EndKind) (direction : Direction)
      → rights.has_end m (context_of m found) (record { kind = kind; direction = direction }) ≡ true
      → IsAmong (record { kind = kind; direction = direction }) found.branch.ends
  listed kind direction t = ends_of_branch m (context_of m found) found.par found.branch
      (record { kind = kind; direction = direction }) stands.numbered t

  -- an end of the branch is one that the starter had left
  was_left : (kind : EndKind) (direction : Direction)
      → rights.has_end m (context_of m found) (record { kind = kind; direction = direction }) ≡ true
      → left_scope.ends kind direction ≡ true
  was_left kind direction t =
      s.left.ends (record { kind = kind; direction = direction }) (listed kind direction t)

  -- it holds the ends of its context
  branch_ends : (kind : EndKind) (direction : Direction)
      → rights.has_end m (context_of m found) (record { kind = kind; direction = direction }) ≡ true
      → has_end mine (record { address = channel_address layout kind; direction = direction }) ≡ true
  branch_ends kind direction t = end_held mine (record { address = channel_address layout kind; direction = direction })
      (subst (λ (xs : List End). IsAmong (record { address = channel_address layout kind; direction = direction }) xs)
      (sym (of_words m found layout base addresses h memory depth workspace s).ends)
      (mapped_among (end_at layout) found.branch.ends (record { kind = kind; direction = direction })
      (listed kind direction t)))

  -- messages are as long as its starter knew
  same_length : (kind : EndKind)
      → message_length m (context_of m found) kind ≡ length_left m found.par found.par.context kind
  same_length (ends.FrameWord word) =
      length_of_some m s.keeps (context_of m found) word (found.par, found.branch) stands.numbered
      ∙ on (listed_length found.par.channels word)
    where
      on : (o : Option ℕ) → nearer o (channel_length m found.par.context word) ≡ (elim o as (λ o. Option ℕ) [
        | Some len ↦ Some len
        | None ↦ message_length m found.par.context (ends.FrameWord word)
      ])
      on None = refl
      on (Some len) = refl
  same_length (ends.Link link) = refl
  same_length (ends.Parameter (negsuc j) element) = refl
  same_length (ends.Parameter (pos j) element) = ap (λ (ps : List Parameter). elim (slice_get ps j) as (λ o. Option ℕ) [
    | None ↦ None
    | Some p ↦ elim p.kind [ Channels count len ends ↦ Some len | _ ↦ None ]
  ]) stands.parameters

  -- so it holds what its context names
  branch_named : HoldsNamed m mine (scope_of m (context_of m found) layout) memory
  branch_named = record {
    each = branch_each;
    apart = branch_apart;
    constants = branch_constants;
    bytes = record { each = λ place b own found. s.named.bytes.each place b (was_read place own) found };
    even = s.named.even;
    ends = branch_ends;
    back = s.named.back;
    lengths = λ kind direction t. same_length kind ∙ s.named.lengths kind direction (was_left kind direction t);
    differ = λ a b direction t u same. s.named.differ a b direction (was_left a direction t) (was_left b direction u)
        same;
  }

-- the frame and all that its context names, in memory
pub branches_hold_their_shares : BranchesHoldTheirShares
branches_hold_their_shares m found layout base addresses h memory depth workspace s = record {
  frame = branch_frame m found layout base addresses h memory depth workspace s;
  named = branch_named m found layout base addresses h memory depth workspace s;
  inside = λ x own. s.inside x (was_read m found layout base addresses h memory depth workspace s x own);
}
