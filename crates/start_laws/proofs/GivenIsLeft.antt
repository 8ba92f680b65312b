-- What a branch is given that passes the tests of its start is left.
use Rattle.std.proofs.Common.{◌≡◌, ℕ, zero, suc, ◌<◌, ◌&&◌, ◌||◌, not, Bool, true, false, inl, inr, ℤ, pos}
use Rattle.std.proofs.Common.{negsuc, ◌+ℤ◌, ◌-ℤ◌, List, [], ◌∷◌, take, Option, Some, None, refl, sym, ap, ◌∙◌, subst}
use Rattle.std.proofs.Common.{arith, eqb-true, if◌then◌else◌}
use Rattle.std.proofs.lemmas.Int.{ints}
use Rattle.std.specs.Prelude.{slice_get, ◌==◌, is_some}
use Rattle.std.specs.List.{list_any, list_all}
use Rattle.std.proofs.lemmas.Bool.{and_from, or_cases, or_left, or_right, and_parts, false_from_ne_true, or_parts}
use Rattle.std.proofs.lemmas.Bool.{not-true, both_ways}
use Rattle.module_format.specs.declared.contexts.Context.{Context}
use Rattle.module_format.specs.declared.rows.ChannelRow.{ChannelRow}
use Rattle.module_format.specs.declared.rows.EndRow.{EndRow}
use Rattle.module_format.specs.declared.rows.Parameter.{Parameter}
use Rattle.module_format.specs.declared.rows.ParameterKind.{ParameterKind}
use Rattle.module_format.specs.declared.rows.ParameterKind.TheVariants.{Value, ReadRegion, WrittenRegion, Channels}
use Rattle.module_format.specs.Contents.{Contents, Par, Branch}
use Rattle.module_format.specs.Contexts.{context_at, parameters_at}
use Rattle.module_format.specs.Keeping.{Keeps}
use Rattle.module_format.specs.Pars.{key_of}
use Rattle.certificate.specs.Starting.{may_give_words}
use Rattle.certificate.specs.Branches.{numbered_branch}
use Rattle.certificate.specs.Rights.{may_write_word, may_read_word, has_word, is_among, is_same_end, has_end}
use Rattle.certificate.specs.Rights.{gives_link, gives_parameter}
use Rattle.certificate.specs.Siblings.{is_beside, has_other_ends, share_what_is_written, have_common_number}
use Rattle.certificate.specs.Siblings.{have_common_word, leaves_hidden_words}
use Rattle.machine_state.specs.BranchContexts.{context_of}
use Rattle.machine_state.specs.JoinLookups.{Found}
use Rattle.machine_state.specs.Ownership.{IsAmong}
use Rattle.machine_state.proofs.Among.{all_among, any_among}
use Rattle.states.specs.State.{State, is_same_number}
use Rattle.rulings.specs.Reach.{is_listed, may_write_parameter, may_read_parameter, writable_size, readable_size}
use Rattle.rulings.specs.Remaining.{is_hidden, is_channel_word}
use Rattle.rulings.proofs.Words.{same_word_by}
use Rattle.par_rules.specs.Gifts.{started_in, has_end_to_give, has_scheduling_words}
use Rattle.par_rules.specs.Gifts.{may_give_parameters}
use Rattle.par_rules.specs.ParRules.{is_apart, ends_are_free, may_give}
use Rattle.share_laws.specs.GivenOnce.{IsBeside, IsWritable, IsGivenOnce}
use Rattle.share_laws.specs.Shares.{IsBranch}
use Rattle.share_laws.specs.Starts.{IsLeft}
use Rattle.share_laws.proofs.GivenOnce.{shares_are_left}
use Rattle.share_laws.proofs.IntervalTests.{words_pass, no_common_word}
use Rattle.share_laws.proofs.RowEnds.{same_end_by, end_itself}
use Rattle.share_laws.proofs.Rows.{has_context}

-- ---- tests

-- a number in both lists
common_number : (numbers others : List ℕ) (j : ℕ) → is_listed numbers j ≡ true → is_listed others j ≡ true
    → have_common_number numbers others ≡ true
common_number numbers [] j mine theirs = absurd (cc)
common_number numbers (k ∷ others) j mine theirs = elim (or_cases (k == j) _ theirs) [
  | inl here ↦ or_left _ _ (subst (λ n. is_listed numbers n ≡ true) (sym (eqb-true k j here)) mine)
  | inr there ↦ or_right (is_listed numbers k) _ (common_number numbers others j mine there)
]

no_common_number : (numbers others : List ℕ) (j : ℕ) → have_common_number numbers others ≡ false
    → is_listed numbers j ≡ true → is_listed others j ≡ false
no_common_number numbers others j apart mine =
    false_from_ne_true (is_listed others j) (λ theirs. both_ways _ apart (common_number numbers others j mine theirs))

-- a number that is listed passes what all do
number_passes : (test : ℕ → Bool) (numbers : List ℕ) (j : ℕ) → list_all test numbers ≡ true
    → is_listed numbers j ≡ true → test j ≡ true
number_passes test [] j all listed = absurd (cc)
number_passes test (k ∷ numbers) j all listed = elim (or_cases (k == j) _ listed) [
  | inl here ↦ ap test (sym (eqb-true k j here)) ∙ (and_parts (test k) _ all).0
  | inr there ↦ number_passes test numbers j (and_parts (test k) _ all).1 there
]

-- ---- branches before one

-- what is before the n-th is among the first n
pub among_first : (xs : List Branch) (n i : ℕ) (b : Branch) → i < n → slice_get xs i ≡ Some b → IsAmong b (take n xs)
among_first [] n i b low there = absurd (cc)
among_first (x ∷ xs) zero i b low there = absurd (omega (arith, low))
among_first (x ∷ xs) (suc n) zero b low there = let same : x ≡ b = cc in inl same
among_first (x ∷ xs) (suc n) (suc i) b low there = inr (among_first xs n i b (omega (arith, low)) there)

-- ---- what the rule says

-- All that the rule asks of what the branch is given.
pub record IsTested (m : Contents) (s : State) (found : Found) : Type 0 where
  pub keeps : Keeps m
  pub is : IsBranch m found
  pub context : found.par.context ≡ s.context
  pub apart : is_apart m s found ≡ true
  pub free : ends_are_free m s found ≡ true
  pub gives : may_give m s found ≡ true
  pub scheduling : has_scheduling_words m (context_of m found) found.branch ≡ true
  pub started : (n : ℕ) (other : Branch) → n < found.number → slice_get found.par.branches n ≡ Some other
      → IsAmong other (started_in m s.mode)
  pub differs : (n : ℕ) (other : Branch) → n < found.number → slice_get found.par.branches n ≡ Some other
      → (other.entry == found.branch.entry) ≡ false

module _ (m : Contents) (s : State) (found : Found) (t : IsTested m s found) where
  numbered : numbered_branch m (context_of m found) ≡ Some (found.par, found.branch)
  numbered = (has_context m found t.keeps t.is).numbered

  -- of words the branch has those of its frame that its row names
  pub writes_is : (k : ℤ) → may_write_word m (context_of m found) k
      ≡ (has_word (context_at m (context_of m found)) k && is_among found.branch.writes k)
  writes_is k = ap (λ (o : Option (Par × Branch)). has_word (context_at m (context_of m found)) k
      && elim o as (λ o. Bool) [ None ↦ true | Some f ↦ is_among f.1.writes k ]) numbered

  pub reads_is : (k : ℤ) → may_read_word m (context_of m found) k
      ≡ (has_word (context_at m (context_of m found)) k
      && (is_among found.branch.writes k || is_among found.branch.reads k))
  reads_is k = ap (λ (o : Option (Par × Branch)). has_word (context_at m (context_of m found)) k
      && elim o as (λ o. Bool) [ None ↦ true | Some f ↦ is_among f.1.writes k || is_among f.1.reads k ]) numbered

  gives : (may_give_words m found.par.context found.branch ≡ true)
      × (may_give_parameters m found.par.context found.branch ≡ true)
      × (leaves_hidden_words m (context_of m found) found.par ≡ true)
  gives =
      let both = and_parts _ _ t.gives in
      let first = and_parts (may_give_words m s.context found.branch) _ both.0 in (
        subst (λ n. may_give_words m n found.branch ≡ true) (sym t.context) first.0,
        subst (λ n. may_give_parameters m n found.branch ≡ true) (sym t.context) first.1,
        both.1,
      )

  written : (k : ℤ) → is_among found.branch.writes k ≡ true → may_write_word m found.par.context k ≡ true
  written k among =
      words_pass (may_write_word m found.par.context) found.branch.writes k (and_parts _ _ gives.0).0 among

  read : (k : ℤ) → is_among found.branch.reads k ≡ true → may_read_word m found.par.context k ≡ true
  read k among =
      words_pass (may_read_word m found.par.context) found.branch.reads k (and_parts _ _ gives.0).1 among

  -- a word of the context's frame is one of the branch's frame
  in_frame : (k : ℤ) → has_word (context_at m found.par.context) k ≡ true
      → has_word (context_at m (context_of m found)) k ≡ true
  in_frame k h = ap (λ o. has_word o k) (has_context m found t.keeps t.is).context ∙ h

  -- the branch may read what it is given
  written_known : (k : ℤ) → is_among found.branch.writes k ≡ true → may_read_word m (context_of m found) k ≡ true
  written_known k among = reads_is k ∙ and_from _ _ (in_frame k (and_parts _ _ (written k among)).0)
      (or_left _ (is_among found.branch.reads k) among)

  read_known : (k : ℤ) → is_among found.branch.reads k ≡ true → may_read_word m (context_of m found) k ≡ true
  read_known k among = reads_is k ∙ and_from _ _ (in_frame k (and_parts _ _ (read k among)).0)
      (or_right (is_among found.branch.writes k) _ among)

  -- which is nothing of the block or a channel
  shown : (k : ℤ) → is_hidden found.par k ≡ true → may_read_word m (context_of m found) k ≡ false
  shown k hides =
      let three = and_parts _ _ gives.2 in
      let two = and_parts (not (may_read_word m (context_of m found) found.par.block)) _ three.0 in
      elim (or_cases _ (is_channel_word found.par k) hides) [
        | inr channel ↦ of_channel found.par.channels three.1 channel
        | inl block ↦ elim (or_cases (is_same_number found.par.block k) _ block) [
          | inl first ↦ ap (may_read_word m (context_of m found)) (sym (same_word_by found.par.block k first))
              ∙ not-true _ two.0
          | inr second ↦ ap (may_read_word m (context_of m found))
              (sym (same_word_by (found.par.block +ℤ pos 1) k second)) ∙ not-true _ two.1
        ]
      ]
    where
      of_channel : (channels : List ChannelRow)
          → list_all (λ (c : ChannelRow). not (may_read_word m (context_of m found) c.word)) channels ≡ true
          → list_any (λ (c : ChannelRow). is_same_number c.word k) channels ≡ true
          → may_read_word m (context_of m found) k ≡ false
      of_channel [] all some = absurd (cc)
      of_channel (c ∷ channels) all some =
          let both = and_parts (not (may_read_word m (context_of m found) c.word)) _ all in
          elim (or_cases (is_same_number c.word k) _ some) [
            | inl it ↦ ap (may_read_word m (context_of m found)) (sym (same_word_by c.word k it)) ∙ not-true _ both.0
            | inr later ↦ of_channel channels both.1 later
          ]

  hidden : (k : ℤ) → is_hidden found.par k ≡ true
      → (is_among found.branch.writes k ≡ false) × (is_among found.branch.reads k ≡ false)
  hidden k hides = (
    false_from_ne_true _ (λ among. both_ways _ (shown k hides) (written_known k among)),
    false_from_ne_true _ (λ among. both_ways _ (shown k hides) (read_known k among)),
  )

  -- ---- parameters

  writable : (j : ℕ) (o : Option Parameter) → slice_get (parameters_at m found.par.context) j ≡ o
      → is_some (elim o as (λ o. Option ℕ) [
        | None ↦ None
        | Some p ↦ if may_write_parameter m found.par.context j then writable_size p.kind else None
      ]) ≡ true → IsWritable m found.par.context j
  writable j None is some = absurd (cc)
  writable j (Some p) is some = on (may_write_parameter m found.par.context j) refl some
    where
      of_kind : (kind : ParameterKind) → p.kind ≡ kind → may_write_parameter m found.par.context j ≡ true
          → is_some (writable_size kind) ≡ true → IsWritable m found.par.context j
      of_kind (Value lo hi) kind may h = absurd (cc)
      of_kind (ReadRegion size lo hi) kind may h = absurd (cc)
      of_kind (WrittenRegion size lo hi) kind may h =
          record { parameter = p; size = size; lo = lo; hi = hi; found = is; kind = kind; may = may }
      of_kind (Channels count len ends) kind may h = absurd (cc)

      on : (b : Bool) → may_write_parameter m found.par.context j ≡ b
          → is_some (if b then writable_size p.kind else None) ≡ true → IsWritable m found.par.context j
      on true may h = of_kind p.kind refl may h
      on false may h = absurd (cc)

  readable : (j : ℕ) (o : Option Parameter) → slice_get (parameters_at m found.par.context) j ≡ o
      → is_some (elim o as (λ o. Option ℕ) [
        | None ↦ None
        | Some p ↦ if may_read_parameter m found.par.context j then readable_size p.kind else None
      ]) ≡ true → may_read_parameter m found.par.context j ≡ true
  readable j None is some = absurd (cc)
  readable j (Some p) is some = on (may_read_parameter m found.par.context j) some
    where
      on : (b : Bool) → is_some (if b then readable_size p.kind else None) ≡ true → b ≡ true
      on true h = refl
      on false h = absurd (cc)

  -- ---- ends

  -- the branch has the ends that its row lists
  listed : (e : EndRow) → IsAmong e found.branch.ends → has_end m (context_of m found) e ≡ true
  listed e among =
      ap (λ (o : Option (Par × Branch)). is_some (context_at m (context_of m found)) && elim o as (λ o. Bool) [
        | Some f ↦ list_any (λ other. is_same_end (key_of other) (key_of e)) f.1.ends
        | None ↦ if context_of m found == 0 then gives_link m.lengths e.kind e.direction
            else gives_parameter (parameters_at m (context_of m found)) e.kind e.direction
      ]) numbered
      ∙ and_from _ _ (there (context_at m (context_of m found))
      (and_parts (has_word (context_at m (context_of m found)) (found.branch.workspace -ℤ pos 1)) _
      (and_parts _ _ (and_parts _ _ t.scheduling).0).0).0)
      (any_among (λ (other : EndRow). is_same_end (key_of other) (key_of e)) found.branch.ends e among (end_itself e))
    where
      there : (o : Option Context) → has_word o (found.branch.workspace -ℤ pos 1) ≡ true → is_some o ≡ true
      there None h = absurd (cc)
      there (Some context) h = refl

  -- ---- another branch

  module _ (n : ℕ) (other : Branch) (low : n < found.number) (there : slice_get found.par.branches n ≡ Some other)
    where
      not_shared : share_what_is_written found.branch other ≡ false
      not_shared = elim (or_cases (other.entry == found.branch.entry) _
          (all_among (is_beside found.branch) (started_in m s.mode) other t.apart (t.started n other low there))) [
            | inl same ↦ absurd (both_ways _ (t.differs n other low there) same)
            | inr apart ↦ not-true _ apart
          ]

      -- neither has what the other one writes
      record AreApart : Type 0 where
        writes : have_common_word found.branch.writes other.writes ≡ false
        written_read : have_common_word found.branch.writes other.reads ≡ false
        read_written : have_common_word found.branch.reads other.writes ≡ false
        parameters : have_common_number found.branch.written_parameters other.written_parameters ≡ false
        written_used : have_common_number found.branch.written_parameters other.read_parameters ≡ false
        used_written : have_common_number found.branch.read_parameters other.written_parameters ≡ false

      are_apart : AreApart
      are_apart =
          let a = or_parts _ (have_common_number found.branch.read_parameters other.written_parameters) not_shared in
          let b = or_parts _ (have_common_number found.branch.written_parameters other.read_parameters) a.0 in
          let c = or_parts _ (have_common_number found.branch.written_parameters other.written_parameters) b.0 in
          let d = or_parts _ (have_common_word found.branch.reads other.writes) c.0 in
          let e = or_parts (have_common_word found.branch.writes other.writes)
          (have_common_word found.branch.writes other.reads) d.0 in
          record {
            writes = e.0;
            written_read = e.1;
            read_written = d.1;
            parameters = c.1;
            written_used = b.1;
            used_written = a.1;
          }

      other_ends : (e : EndRow) → IsAmong e found.branch.ends
          → list_any (λ x. is_same_end (key_of x) (key_of e)) other.ends ≡ false
      other_ends e among = false_from_ne_true _ (λ has. both_ways _
          (not-true _ (all_among (has_other_ends m (context_of m found)) (started_in m s.mode) other
          (and_parts (list_all (has_end_to_give m s.context found.par) found.branch.ends) _ t.free).1
          (t.started n other low there))) (has_too other.ends has))
        where
          has_too : (es : List EndRow) → list_any (λ x. is_same_end (key_of x) (key_of e)) es ≡ true
              → list_any (has_end m (context_of m found)) es ≡ true
          has_too [] h = absurd (cc)
          has_too (x ∷ es) h = elim (or_cases (is_same_end (key_of x) (key_of e)) _ h) [
            | inl it ↦ or_left _ _ (ap (has_end m (context_of m found)) (same_end_by x e it) ∙ listed e among)
            | inr later ↦ or_right (has_end m (context_of m found) x) _ (has_too es later)
          ]

      beside : IsBeside found.branch other
      beside = record {
        writes = λ k among. (
          no_common_word found.branch.writes other.writes k are_apart.writes among,
          no_common_word found.branch.writes other.reads k are_apart.written_read among,
        );
        reads = λ k among. no_common_word found.branch.reads other.writes k are_apart.read_written among;
        written = λ j among. (
          no_common_number found.branch.written_parameters other.written_parameters j are_apart.parameters among,
          no_common_number found.branch.written_parameters other.read_parameters j are_apart.written_used among,
        );
        read = λ j among.
            no_common_number found.branch.read_parameters other.written_parameters j are_apart.used_written among;
        ends = other_ends;
      }

  -- the words that scheduling takes, by their numbers
  scheduling : (n : ℕ) → n < 3 → is_among found.branch.writes (found.branch.workspace +ℤ negsuc n) ≡ true
  scheduling n low =
      let third = and_parts _ _ t.scheduling in
      let two = and_parts (may_write_word m (context_of m found) (found.branch.workspace -ℤ pos 1)) _ third.0 in
      by_number n low (of_word _ two.0) (of_word _ two.1) (of_word _ third.1)
    where
      of_word : (k : ℤ) → may_write_word m (context_of m found) k ≡ true → is_among found.branch.writes k ≡ true
      of_word k may = (and_parts (has_word (context_at m (context_of m found)) k) _ (sym (writes_is k) ∙ may)).1

      by_number : (n : ℕ) → n < 3 → is_among found.branch.writes (found.branch.workspace -ℤ pos 1) ≡ true
          → is_among found.branch.writes (found.branch.workspace -ℤ pos 2) ≡ true
          → is_among found.branch.writes (found.branch.workspace -ℤ pos 3) ≡ true
          → is_among found.branch.writes (found.branch.workspace +ℤ negsuc n) ≡ true
      by_number zero low a b c =
          let same : found.branch.workspace -ℤ pos 1 ≡ found.branch.workspace +ℤ negsuc 0 = omega (arith, ints) in
          subst (λ k. is_among found.branch.writes k ≡ true) same a
      by_number (suc zero) low a b c =
          let same : found.branch.workspace -ℤ pos 2 ≡ found.branch.workspace +ℤ negsuc 1 = omega (arith, ints) in
          subst (λ k. is_among found.branch.writes k ≡ true) same b
      by_number (suc (suc zero)) low a b c =
          let same : found.branch.workspace -ℤ pos 3 ≡ found.branch.workspace +ℤ negsuc 2 = omega (arith, ints) in
          subst (λ k. is_among found.branch.writes k ≡ true) same c
      by_number (suc (suc (suc n))) low a b c = absurd (omega (arith, low))

  given_once : IsGivenOnce m found
  given_once = record {
    writes = written;
    reads = read;
    hidden = hidden;
    written = λ j among. writable j (slice_get (parameters_at m found.par.context) j) refl
        (number_passes _ found.branch.written_parameters j (and_parts _ _ gives.1).0 among);
    read = λ j among. readable j (slice_get (parameters_at m found.par.context) j) refl
        (number_passes _ found.branch.read_parameters j (and_parts _ _ gives.1).1 among);
    ends = λ e among. subst (λ n. has_end_to_give m n found.par e ≡ true) (sym t.context)
        (all_among (has_end_to_give m s.context found.par) found.branch.ends e
        (and_parts (list_all (has_end_to_give m s.context found.par) found.branch.ends) _ t.free).0 among);
    scheduling = scheduling;
    beside = beside;
  }

  pub is_left : IsLeft m found
  is_left = shares_are_left m found given_once
