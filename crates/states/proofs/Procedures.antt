-- Where procedures begin: their contexts, and the words of their parameters.
use Rattle.std.proofs.Common.{◌≡◌, ℕ, zero, suc, ◌+◌, ◌-◌, ◌<◌, ◌≤◌, ℤ, pos, ◌≤ℤ◌, ◌<ℤ◌, true, false, List, [], ◌∷◌}
use Rattle.std.proofs.Common.{◌++◌, length, get_or, drop, Some, refl, sym, ap, ◌∙◌, subst, arith, append_assoc}
use Rattle.std.proofs.Common.{length-append}
use std.Path.{fun_ext}
use Rattle.std.specs.Prelude.{slice_get, nat_lt, ◌==◌}
use Rattle.std.proofs.Math.Seq.{drop-append_seam, get_or-append_seam, drop-length}
use Rattle.std.proofs.lemmas.List.{append-nil}
use Rattle.std.proofs.lemmas.Option.{slice_get_within}
use Rattle.std.proofs.lemmas.Bool.Decides.{nat_tests}
use Rattle.std.proofs.lemmas.Int.{ints}
use Rattle.std.proofs.lemmas.Bool.{and_from}
use Rattle.small_laws.proofs.Comparisons.{lt-int_lt, le-int_le}
use Rattle.module_format.specs.declared.fact.Fact.TheVariants.{ReturnAddress}
use Rattle.module_format.specs.Rows.{Fact}
use Rattle.module_format.specs.declared.rows.Parameter.{Parameter}
use Rattle.module_format.specs.Contents.{Contents, Procedure, Par}
use Rattle.module_format.specs.Contexts.{context_at, owner, branch_count, procedure_context}
use Rattle.certificate.specs.Rights.{has_word}
use Rattle.module_format.specs.Order.{InOrder}
use Rattle.module_format.specs.Procedures.{ParameterKeeps, behind_parameter, ProcedureKeeps, behind_procedure}
use Rattle.module_format.specs.Keeping.{Keeps}
use Rattle.states.specs.declared.frame.Frame.{Frame}
use Rattle.states.specs.State.{Facts, entry_fact, parameter_fact, parameter_facts, procedure_facts}
use Rattle.states.specs.Frames.{with_alone, HasRoom, HasRoomForAll, SameRoom}
use Rattle.states.specs.declared.state.State.{State as InMemory}
use Rattle.states.specs.Views.{BelongsTo}

-- ---- contexts

-- a context below the branches is its own
owner-below : (first : ℕ) (rows : List Par) (n : ℕ) → n < first → owner first rows n ≡ n
owner-below first [] n h = refl
owner-below first (row ∷ rows) n h =
    let within : owner (first + length row.branches) rows n ≡ n =
    owner-below (first + length row.branches) rows n (omega arith) in
    let low : nat_lt n first ≡ true = grind (arith, nat_tests) in
    rw (within, low) refl

-- the context of a procedure
pub procedure-at : (m : Contents) (n : ℕ) (p : Procedure) → 1 ≤ n → slice_get m.procedures (n - 1) ≡ Some p
    → context_at m n ≡ Some (procedure_context p)
unfolding context_at
procedure-at m n p some is =
    let inside = slice_get_within m.procedures (n - 1) p is in
    let own = owner-below (1 + length m.procedures) m.pars n (omega arith) in
    let there : nat_lt n (1 + length m.procedures + branch_count m.pars) ≡ true = grind (arith, nat_tests) in
    let other : n == 0 ≡ false = grind (arith, nat_tests) in
    rw (there, own, other, is) refl

-- ---- the words of parameters

-- a row is valid, wherever it is
pub at-row : (code_len low : ℕ) (rows : List Procedure) (i : ℕ) (p : Procedure)
    → InOrder (ProcedureKeeps code_len) behind_procedure low rows → slice_get rows i ≡ Some p
    → (l : ℕ) × ProcedureKeeps code_len l p
at-row code_len low [] i p all h = absurd (cc)
at-row code_len low (row ∷ rows) zero p all h =
    let same : row ≡ p = cc in
    (low, subst (λ (r : Procedure). ProcedureKeeps code_len low r) same all.0)
at-row code_len low (row ∷ rows) (suc i) p all h = at-row code_len row.entry rows i p all.1 h

parameter-inside : (hi : ℤ) (low : ℕ) (ps : List Parameter) (i : ℕ) (d : Parameter)
    → InOrder (ParameterKeeps hi) behind_parameter low ps → i < length ps → pos (get_or ps i d).word <ℤ hi
parameter-inside hi low [] i d all h = absurd (omega arith)
parameter-inside hi low (q ∷ ps) zero d all h = all.0.inside
parameter-inside hi low (q ∷ ps) (suc i) d all h = parameter-inside hi q.word ps i d all.1 (omega arith)

-- a word from 0 on that lies in the procedure's frame can be written
word-room : (m : Contents) (s : InMemory) (n : ℕ) (p : Procedure) (word : ℕ) → BelongsTo m s
    → context_at m n ≡ Some (procedure_context p) → p.lo ≤ℤ pos 0 → pos word <ℤ p.hi → HasRoom s.frame (pos word)
word-room m s n p word b is low high =
    let own : has_word (context_at m n) (pos word) ≡ true =
    ap (λ o. has_word o (pos word)) is
    ∙ and_from _ _ (le-int_le p.lo (pos word) (omega (arith, ints))) (lt-int_lt (pos word) p.hi high) in
    (b.room n (pos word) own).room

-- what becomes of a state where a procedure begins
pub record Begins (s : InMemory) (p : Procedure) : Type 0 where
  pub first : HasRoom s.frame (pos 0)
  pub each : HasRoomForAll s.frame p.parameters
  pub few : length p.parameters ≤ 64

pub begins : (m : Contents) (s : InMemory) (n : ℕ) (p : Procedure) → Keeps m → BelongsTo m s → 1 ≤ n
    → slice_get m.procedures (n - 1) ≡ Some p → Begins s p
begins m s n p k b some is =
    let context = procedure-at m n p some is in
    let row = (at-row (length m.code) 0 m.procedures (n - 1) p k.rows.procedures is).1 in
    record {
      first = word-room m s n p 0 b context row.lo_high (let h = row.hi_low in omega (arith, ints));
      each = record {
        each = λ i h d. word-room m s n p (get_or p.parameters i d).word b context row.lo_high
            (parameter-inside p.hi 0 p.parameters i d row.parameters h);
      };
      few = row.few;
    }

-- ---- parameters one by one, from the last to the first

-- before the last
pub parameters-none : (ps rest : List Parameter) (facts : Facts) → rest ≡ ps → facts ≡ entry_fact []
    → (ps ≡ rest ++ drop (length rest) ps) × (facts ≡ parameter_facts (length rest) (drop (length rest) ps))
parameters-none ps rest facts all none =
    let behind : drop (length rest) ps ≡ [] =
    ap (λ (qs : List Parameter). drop (length qs) ps) all ∙ drop-length ps in (
      rw (behind, append-nil) (sym all),
      rw behind (none ∙ fun_ext (λ k. refl)),
    )

-- the parameters with the next one in its place
split : (ps rest earlier : List Parameter) (last : Parameter) → rest ≡ earlier ++ last ∷ []
    → ps ≡ rest ++ drop (length rest) ps → ps ≡ earlier ++ last ∷ drop (length rest) ps
split ps rest earlier last is front = front ∙ (ap (λ (qs : List Parameter). qs ++ drop (length rest) ps) is
    ∙ append_assoc earlier (last ∷ []) (drop (length rest) ps))

behind-last : (ps rest earlier : List Parameter) (last : Parameter) → rest ≡ earlier ++ last ∷ []
    → ps ≡ rest ++ drop (length rest) ps → drop (length earlier) ps ≡ last ∷ drop (length rest) ps
behind-last ps rest earlier last is front =
    ap (drop (length earlier)) (split ps rest earlier last is front)
    ∙ drop-append_seam earlier (last ∷ drop (length rest) ps)

pub parameters-more : (ps rest earlier : List Parameter) (last : Parameter) (facts new : Facts) (word : ℤ) (number : ℕ)
    (fact : Fact) → rest ≡ earlier ++ last ∷ [] → length earlier + 1 ≡ length rest → ps ≡ rest ++ drop (length rest) ps
    → facts ≡ parameter_facts (length rest) (drop (length rest) ps) → word ≡ pos last.word
    → number ≡ length earlier → fact ≡ parameter_fact number last.kind → new ≡ with_alone word fact facts
    → (ps ≡ earlier ++ drop (length earlier) ps)
    × (new ≡ parameter_facts (length earlier) (drop (length earlier) ps))
parameters-more ps rest earlier last facts new word number fact is len front so_far word_is number_is fact_is placed =
    let behind = behind-last ps rest earlier last is front in
    let next : length rest ≡ length earlier + 1 = omega arith in (
      split ps rest earlier last is front ∙ ap (λ (qs : List Parameter). earlier ++ qs) (sym behind),
      rw behind (placed ∙ rw (word_is, fact_is, number_is, so_far, next) (fun_ext (λ k. refl))),
    )

-- the word of the next one can be written
pub parameter-room : (old new : Frame) (ps rest earlier : List Parameter) (last : Parameter) (word : ℤ)
    → HasRoomForAll old ps → SameRoom old new → rest ≡ earlier ++ last ∷ [] → ps ≡ rest ++ drop (length rest) ps
    → word ≡ pos last.word → HasRoom new word
parameter-room old new ps rest earlier last word all same is front word_is =
    let whole = split ps rest earlier last is front in
    let inside : length earlier < length ps =
    rw whole (omega (arith, length-append earlier (last ∷ drop (length rest) ps))) in
    let at : get_or ps (length earlier) last ≡ last =
    ap (λ (qs : List Parameter). get_or qs (length earlier) last) whole
    ∙ get_or-append_seam earlier last (drop (length rest) ps) last in
    let here = subst (λ (q : Parameter). HasRoom old (pos q.word)) at (all.each (length earlier) inside last) in
    let low = here.low in
    let high = here.high in
    let lo = same.lo in
    let len = same.len in
    record { low = omega (arith, ints); high = omega (arith, ints) }

-- all of them, and the return address
pub parameters-all : (p : Procedure) (rest : List Parameter) (facts new : Facts) (word : ℤ) → length rest ≡ 0
    → facts ≡ parameter_facts (length rest) (drop (length rest) p.parameters) → word ≡ pos 0
    → new ≡ with_alone word ReturnAddress facts
    → new ≡ procedure_facts p
parameters-all p rest facts new word none so_far word_is placed =
    placed ∙ rw (word_is, so_far, none) (fun_ext (λ k. refl))
