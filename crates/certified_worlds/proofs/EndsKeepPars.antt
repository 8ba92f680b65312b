-- An end of a branch leaves what its opener goes on with, and so does the opener's own; with the last one the opener is
-- there.
use Rattle.std.proofs.Common.{◌≡◌, ◌≢◌, ◌⊎◌, ℕ, zero, suc, ◌+◌, ◌==◌, not, true, false, Bool}
use Rattle.std.proofs.Common.{inl, inr, ℤ, pos, ◌+ℤ◌, if◌then◌else◌, List, [], ◌∷◌, length, Option, Some, None, refl}
use Rattle.std.proofs.Common.{sym}
use Rattle.std.proofs.Common.{ap, ◌∙◌, subst, arith}
use Rattle.std.proofs.lemmas.Bool.{eqb-true, and_from, or_cases, or_left, or_right, and_parts, cases_Bool}
use Rattle.std.specs.Prelude.{slice_get, filter, take}
use Rattle.std.specs.List.{list_any}
use Rattle.module_format.specs.declared.contexts.Context.{Context}
use Rattle.module_format.specs.declared.fact.Fact.TheVariants.{Unknown, Number, Pointer, CodeAddress, Loop}
use Rattle.module_format.specs.declared.fact.Fact.TheVariants.{ReturnAddress}
use Rattle.module_format.specs.declared.fact.Region.{Region}
use Rattle.module_format.specs.declared.fact.Region.TheVariants as regions
use Rattle.module_format.specs.declared.stack.Stack.{Stack}
use Rattle.module_format.specs.Rows.{Fact}
use Rattle.module_format.specs.Contents.{Contents, Par, Branch}
use Rattle.module_format.specs.Contexts.{context_at}
use Rattle.module_format.specs.Stack.{mapped, AreRelated}
use Rattle.certificate.specs.Branches.{numbered_branch}
use Rattle.certificate.specs.Rights.{may_write_word, may_read_word, has_word, is_among}
use Rattle.machine_state.specs.declared.process.Mode.TheVariants as machine_modes
use Rattle.machine_state.specs.declared.process.Registers.{Registers}
use Rattle.machine_state.specs.Holding.{Holding}
use Rattle.machine_state.specs.Memory.{Memory, data_start}
use Rattle.machine_state.specs.Roles.{members_without}
use Rattle.machine_state.specs.Waiting.{is_member}
use Rattle.machine_state.specs.World.{Join}
use Rattle.std.proofs.lemmas.Option.{slice_get_within}
use Rattle.small_laws.proofs.Options.{same_some}
use Rattle.states.specs.declared.known.WordFact.{WordFact}
use Rattle.states.specs.declared.known.WordFact.TheVariants.{Alone, Index, Count}
use Rattle.states.specs.State.{entry_fact, is_alone, known, label_state}
use Rattle.rulings.specs.Fitting.{After}
use Rattle.rulings.specs.Meaning.{Layout, Activation, region_start, code_address, word_of, Means, says_nothing}
use Rattle.rulings.specs.Meaning.{is_number}
use Rattle.rulings.specs.Meaning.{is_pointer, is_code_address, is_return_address, MeansWord, is_fact, nothing_known}
use Rattle.rulings.specs.Meaning.{MeansKnown, frame_word, words_in, HasFrame, both_plain}
use Rattle.rulings.specs.Regions.{scope_of, HoldsNamed}
use Rattle.rulings.specs.Remaining.{is_hidden}
use Rattle.rulings.proofs.Combining.{unknown_means}
use Rattle.share_laws.specs.Climbing.{LieAlike}
use Rattle.certified_worlds.specs.Point.{Began}
use Rattle.certified_worlds.specs.ParLabels.{LeavesSaid}
use Rattle.certified_worlds.specs.Pending.{HasMember, IsOut, AfterPar, Pending, IsMember}
use Rattle.certified_worlds.proofs.JoinChanges.{after_as, member_as, out_as}

-- ---- facts in layouts that lie alike

region_alike : (m : Contents) {layout other : Layout} → LieAlike layout other → (region : Region)
    → region_start m other region ≡ region_start m layout region
region_alike m alike regions.Frame = ap (λ (z : ℤ). pos data_start +ℤ z) alike.origin
region_alike m alike regions.Constants = refl
region_alike m alike (regions.Parameter j) = ap (λ (n : ℕ). pos n) (alike.starts j)

means_alike : {m : Contents} {layout other : Layout} → LieAlike layout other → other.back ≡ layout.back → {f : Fact}
    {v : Option ℤ} → Means m other f v → Means m layout f v
means_alike alike back {f = Unknown} means = says_nothing
means_alike alike back {f = Number lo hi} (is_number low high fits) = is_number low high fits
means_alike {m} alike back {f = Pointer region lo hi step} (is_pointer offset low high stepped is) =
    is_pointer offset low high stepped (is ∙ ap (λ (z : ℤ). word_of (z +ℤ offset)) (region_alike m alike region))
means_alike alike back {f = CodeAddress offset} (is_code_address is) = is_code_address is
means_alike alike back {f = Loop base count weight} means = elim means [ ]
means_alike {m} alike back {f = ReturnAddress} (is_return_address is) =
    is_return_address (is ∙ ap (λ (n : ℕ). word_of (pos (code_address m n))) back)

-- what is known of a word that is in no loop
word_alike : {m : Contents} {act other : Activation} {k : ℤ} → LieAlike act.layout other.layout
    → other.layout.back ≡ act.layout.back → (f : WordFact) → is_alone f ≡ true → {v : Option ℤ}
    → MeansWord m other k f v → MeansWord m act k f v
word_alike alike back (Alone fact) alone (is_fact means) = is_fact (means_alike alike back means)
word_alike alike back (Index loop) alone means = absurd (cc)
word_alike alike back (Count loop) alone means = absurd (cc)

-- ---- members

-- a member is still one once another one has gone
pub member_stays : (members : List ℕ) (gone p : ℕ) → gone ≢ p → is_member members p ≡ true
    → is_member (members_without gone members) p ≡ true
member_stays [] gone p differ h = h
member_stays (q ∷ qs) gone p differ h =
    on (member_stays qs gone p differ) (q == gone) refl (or_cases (q == p) (is_member qs p) h)
  where
    on : (is_member qs p ≡ true → is_member (filter (λ q. not (q == gone)) qs) p ≡ true) → (b : Bool)
        → (q == gone) ≡ b → ((q == p) ≡ true) ⊎ (is_member qs p ≡ true)
        → is_member (if not b then q ∷ filter (λ q. not (q == gone)) qs else filter (λ q. not (q == gone)) qs) p ≡ true
    on further true e (inl here) = absurd (differ (sym (eqb-true q gone e) ∙ eqb-true q p here))
    on further true e (inr there) = further there
    on further false e (inl here) = or_left _ _ here
    on further false e (inr there) = or_right (q == p) _ (further there)

-- the join once a member has gone
abbrev pub join_without : ℕ → Join → Join
join_without p j = record j { members = members_without p j.members }

-- what the opener goes on with is the same
abbrev pub after_without : {m : Contents} {j : Join} {due : ℕ} (p : ℕ) → AfterPar m j due
    → AfterPar m (join_without p j) due
after_without {j = j} p after = after_as after (join_without p j) after.row after.laid after.block

-- a word that one of the branches writes is given to write
given_at : (branches : List Branch) (n : ℕ) (b : Branch) (k : ℤ) → slice_get branches n ≡ Some b
    → is_among b.writes k ≡ true
    → list_any (λ (b : Branch). is_among b.writes k) (take (length branches) branches) ≡ true
given_at [] n b k here writes = absurd (cc)
given_at (x ∷ xs) zero b k here writes =
    let same : x ≡ b = cc in or_left _ _ (subst (λ (b : Branch). is_among b.writes k ≡ true) (sym same) writes)
given_at (x ∷ xs) (suc n) b k here writes = or_right (is_among x.writes k) _ (given_at xs n b k here writes)

module _ {m : Contents} {own : Holding} {o : ℕ} {began : Began} {all : List Began} {memory : Memory} {j : Join}
    {due : ℕ} {after : AfterPar m j due} (pending : Pending m own o began all memory j due after) where
  -- ---- the end of a branch

  module _ (p : ℕ) (start : Began) (has_start : slice_get all p ≡ Some start)
      (member : IsMember m after.par after.act.layout start) (act : Activation)
      (alike : LieAlike after.act.layout act.layout) (back : act.layout.back ≡ after.act.layout.back)
      (leaves : LeavesSaid m start.context after.label.entries act memory) where
    -- a word that the opener's context has and that the branch's row names it may write
    may_write : (k : ℤ) → (words_in m after.par.context).reads k ≡ true → is_among member.branch.writes k ≡ true
        → may_write_word m start.context k ≡ true
    may_write k reads among = and_from (has_word (context_at m start.context) k) _
        (ap (λ (o : Option Context). has_word o k) member.frame
        ∙ (and_parts (has_word (context_at m after.par.context) k) _ reads).0)
        (ap (λ (o : Option (Par × Branch)). elim o as (λ o. Bool) [
          | None ↦ true
          | Some found ↦ is_among found.1.writes k
        ]) member.is ∙ among)

    -- so what the label says of it holds for the opener
    written_word : (k : ℤ) → (words_in m after.par.context).reads k ≡ true → is_among member.branch.writes k ≡ true
        → MeansWord m after.act k (entry_fact after.label.entries k) (frame_word memory after.act.layout.origin k)
    written_word k reads among =
        let alone = after.alone k (given_at after.par.branches member.number member.branch k member.here among) in
        subst (λ (z : ℤ). MeansWord m after.act k (entry_fact after.label.entries k) (frame_word memory z k))
        alike.origin
        (word_alike alike back (entry_fact after.label.entries k) alone (leaves k (may_write k reads among) alone))

    -- no other word is joined with it
    out_still : (k : ℤ) → is_among member.branch.writes k ≡ false → IsOut m o all after.par j k
        → IsOut m o all after.par (join_without p j) k
    out_still k none out = out_as out (λ is_out. elim is_out [
      | inl unstarted ↦ inl unstarted
      | inr x ↦ inr (member_as x x.has_start
          (member_stays j.members p x.process (λ same. itself out.branch out.writes x same) x.member))
    ])
      where
        itself : (b : Branch) → is_among b.writes k ≡ true → (x : HasMember m o all after.par j b) → p ≡ x.process → ⊥
        itself b writes x same =
            let start_is : start ≡ x.start =
            same_some (slice_get all x.process) start x.start
            (subst (λ (n : ℕ). slice_get all n ≡ Some start) same has_start) x.has_start in
            let both : ◌≡◌ {A = Par × Branch} (after.par, member.branch) (after.par, b) =
            same_some (numbered_branch m x.start.context) (after.par, member.branch) (after.par, b)
            (subst (λ (s : Began). numbered_branch m s.context ≡ Some (after.par, member.branch)) start_is member.is)
            x.is in
            let branch_is : member.branch ≡ b = ap (λ (x : Par × Branch). x.1) both in
            let no' : false ≡ true =
            sym none ∙ (ap (λ (b : Branch). is_among b.writes k) branch_is ∙ writes) in
            cc

    pub branch_leaves : Pending m own o began all memory (join_without p j) due (after_without p after)
    branch_leaves = record {
      frame = pending.frame;
      named = pending.named;
      behind = pending.behind;
      words = λ k reads hides free. elim (cases_Bool (is_among member.branch.writes k)) [
        | inl among ↦ written_word k reads among
        | inr none ↦ pending.words k reads hides (λ out. free (out_still k none out))
      ];
    }

  -- ---- the end of the process that has started them

  -- it is no branch of the join
  pub own_leaves : Pending m own o began all memory (join_without o j) due (after_without o after)
  own_leaves = record {
    frame = pending.frame;
    named = pending.named;
    behind = pending.behind;
    words = λ k reads hides free. pending.words k reads hides (λ out. free (out_as out (λ is_out. elim is_out [
      | inl unstarted ↦ inl unstarted
      | inr x ↦ inr (member_as x x.has_start
          (member_stays j.members o x.process (λ same. x.other (sym same)) x.member))
    ])));
  }

  -- ---- the last end

  module _ (started : j.started ≡ length after.par.branches) (none : j.members ≡ []) where
    nothing_out : (k : ℤ) → IsOut m o all after.par j k → ⊥
    nothing_out k out = elim out.is_out [
      | inl unstarted ↦
          let low = slice_get_within after.par.branches out.number out.branch out.here in
          omega (arith, unstarted, low, started)
      | inr x ↦
          let is : is_member [] x.process ≡ true =
          subst (λ (ms : List ℕ). is_member ms x.process ≡ true) none x.member in
          cc
    ]

    -- all that the label says holds, in the activation of the opener
    pub opener_after : (r : Registers) → r.workspace ≡ j.block
        → After m own machine_modes.Plain after.act (label_state after.label)
        (record { registers = r; memory = memory })
    opener_after r at = record {
      frame = subst (λ (n : ℕ). HasFrame own (length memory) (words_in m n) after.act.layout.origin after.label.depth
          r.workspace) (sym after.context)
          (subst (λ (z : ℤ). HasFrame own (length memory) (words_in m after.par.context) after.act.layout.origin z
          r.workspace) (sym after.depth)
          (subst (λ (n : ℕ). HasFrame own (length memory) (words_in m after.par.context) after.act.layout.origin
          after.par.block n) (sym at) pending.frame));
      knows = record {
        registers = subst (λ (said : Stack Fact). AreRelated
            (MeansKnown m (words_in m after.label.context).reads after.act.layout memory) (mapped known said) r.stack)
            (sym after.registers) (record { a = unknown_means; b = unknown_means; c = unknown_means });
        words = λ k reads. word k (subst (λ (n : ℕ). may_read_word m n k ≡ true) after.context reads);
      };
      named = subst (λ (n : ℕ). HoldsNamed m own (scope_of m n after.act.layout) memory) (sym after.context)
          pending.named;
      same_mode = both_plain;
    }
      where
        word : (k : ℤ) → may_read_word m after.par.context k ≡ true
            → MeansWord m after.act k (entry_fact after.label.entries k) (frame_word memory after.act.layout.origin k)
        word k reads = elim (cases_Bool (is_hidden after.par k)) [
          | inl hides ↦
              subst (λ (f : WordFact). MeansWord m after.act k f (frame_word memory after.act.layout.origin k))
              (sym (after.hidden k hides)) (nothing_known m after.act k (frame_word memory after.act.layout.origin k))
          | inr shown ↦ pending.words k reads shown (nothing_out k)
        ]
