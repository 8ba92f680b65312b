-- What is too much stays so, whatever code comes after it.
use Rattle.std.proofs.Common.{◌≡◌, ℕ, zero, suc, ◌+◌, ◌-◌, ◌<◌, ◌≤◌, true, false, List, ◌++◌, Option, Some, None}
use Rattle.std.proofs.Common.{ap, sym, subst, ◌∙◌, arith}
use Rattle.std.proofs.lemmas.List.{append_assoc}
use Rattle.scalar_ranges.specs.Scopes.{known_of}
use Rattle.code_pieces.specs.Pieces.{Piece, Code, before, then_code, closed_by}
use Rattle.line_pieces.specs.FrameViews.{frame_seen}
use Rattle.line_pieces.specs.Limits.{is_too_much}
use Rattle.line_pieces.proofs.TooMuch.{too_much_stays}
use Rattle.code_generator.specs.declared.limits.Limits.{Limits}
use Rattle.code_generator.specs.declared.processes.ProcessWriter.{ProcessWriter}
use Rattle.code_generator.specs.Processes.{Site}
use Rattle.code_generator.specs.Written.{site_of, Appends, Spends, IsTooMuch, Exceeds}

-- ---- pieces

-- some of them after others, which were there
pub much_behind : (l : Limits) (old mid ps qs : List Piece) → mid ≡ old ++ ps → IsTooMuch l mid qs
    → IsTooMuch l old (ps ++ qs)
much_behind l old mid ps qs m h = λ q.
    subst (λ x. is_too_much l.names x ≡ true) (ap (λ x. x ++ qs) m ∙ append_assoc old ps qs) (h q)

-- some more
pub much_more : (l : Limits) (old ps qs : List Piece) → IsTooMuch l old ps → IsTooMuch l old (ps ++ qs)
much_more l old ps qs h = λ q.
    subst (λ x. is_too_much l.names x ≡ true) (append_assoc old ps qs)
    (too_much_stays l.names (old ++ ps) qs (h q))

-- what was written is too much already, and these are left
pub much_left : (l : Limits) (now left whole : List Piece) → now ++ left ≡ whole
    → (l.is_sequential ≡ true → is_too_much l.names now ≡ true) → l.is_sequential ≡ true
    → is_too_much l.names whole ≡ true
much_left l now left whole is h q =
    subst (λ x. is_too_much l.names x ≡ true) is (too_much_stays l.names now left (h q))

-- ---- code

-- pieces that are too much already, whatever follows
pub exceeds_more : (l : Limits) (code : Option Code) (old ps : List Piece) → IsTooMuch l old ps
    → Exceeds l old (before ps code)
exceeds_more l None old ps h = tt
exceeds_more l (Some c) old ps h = much_more l old ps c.pieces h

-- code after pieces
pub exceeds_before : (l : Limits) (code : Option Code) (old mid ps : List Piece) → mid ≡ old ++ ps
    → Exceeds l mid code → Exceeds l old (before ps code)
exceeds_before l None old mid ps m h = tt
exceeds_before l (Some c) old mid ps m h = much_behind l old mid ps c.pieces m h

-- code before pieces
pub exceeds_closed : (l : Limits) (code : Option Code) (old ps : List Piece) → Exceeds l old code
    → Exceeds l old (closed_by ps code)
exceeds_closed l None old ps h = tt
exceeds_closed l (Some c) old ps h = much_more l old c.pieces ps h

-- pieces after code
pub exceeds_behind : (l : Limits) (code : Option Code) (old mid ps : List Piece) (n : ℕ) → Appends old mid n code
    → IsTooMuch l mid ps → Exceeds l old (closed_by ps code)
exceeds_behind l None old mid ps n a h = tt
exceeds_behind l (Some c) old mid ps n a h = much_behind l old mid c.pieces ps a.0 h

-- the first of two
pub exceeds_first : (l : Limits) (code : Option Code) (next : ℕ → Option Code) (old : List Piece)
    → Exceeds l old code → Exceeds l old (then_code code next)
exceeds_first l None next old h = tt
exceeds_first l (Some c) next old h = exceeds_more l (next c.labels) old c.pieces h

-- the second of two
pub exceeds_second : (l : Limits) (code : Option Code) (next : ℕ → Option Code) (old mid : List Piece) (n : ℕ)
    → Appends old mid n code → Exceeds l mid (next n) → Exceeds l old (then_code code next)
exceeds_second l None next old mid n a h = tt
exceeds_second l (Some c) next old mid n a h =
    exceeds_before l (next c.labels) old mid c.pieces a.0 (subst (λ k. Exceeds l mid (next k)) a.1 h)

-- ---- one after the other

-- what is after some of them, and what one more adds
abbrev pub OneMore : (upto : ℕ → Option Code) → ℕ → Type 0
OneMore upto k = (next : ℕ → Option Code) × (upto (k + 1) ≡ then_code (upto k) next)

-- If some are too much, so are all.
exceeds_rest : (l : Limits) (upto : ℕ → Option Code) (n : ℕ) (old : List Piece)
    → ((k : ℕ) → k < n → OneMore upto k) → (left k : ℕ) → k + left ≡ n → Exceeds l old (upto k)
    → Exceeds l old (upto n)
exceeds_rest l upto n old steps zero k is h = subst (λ m. Exceeds l old (upto m)) (omega (arith, is)) h
exceeds_rest l upto n old steps (suc left) k is h =
    let more = steps k (omega (arith, is)) in
    exceeds_rest l upto n old steps left (k + 1) (omega (arith, is))
    (subst (λ o. Exceeds l old o) (sym more.1) (exceeds_first l (upto k) more.0 old h))

pub exceeds_all : (l : Limits) (upto : ℕ → Option Code) (n k : ℕ) (old : List Piece)
    → ((k : ℕ) → k < n → OneMore upto k) → k ≤ n → Exceeds l old (upto k) → Exceeds l old (upto n)
exceeds_all l upto n k old steps within h = exceeds_rest l upto n old steps (n - k) k (omega arith) h

-- ---- where it is not asked

-- A program that is not sequential is bounded otherwise.
pub not_asked : (l : Limits) (old ps : List Piece) → l.is_sequential ≡ false → IsTooMuch l old ps
not_asked l old ps h = λ q. absurd (cc (q, h))

pub not_sequential : (l : Limits) (old : List Piece) (code : Option Code) → l.is_sequential ≡ false → Exceeds l old code
not_sequential l old None h = tt
not_sequential l old (Some c) h = not_asked l old c.pieces h

-- where something was spent
pub spent_place : {s t : ProcessWriter} → Spends s t → site_of t ≡ site_of s
spent_place x = λ i. record {
  frame = frame_seen (x.frame i);
  known = known_of (x.scope i);
  label = x.label i;
}

-- Code goes on as well where all but what was spent is the same.
pub exceeds_from : (l : Limits) (s v : ProcessWriter) (code : Site → Option Code) → v.listing ≡ s.listing
    → site_of v ≡ site_of s → Exceeds l v.listing (code (site_of v)) → Exceeds l s.listing (code (site_of s))
exceeds_from l s v code same place h =
    subst (λ (y : List Piece × Site). Exceeds l y.0 (code y.1)) (λ i. (same i, place i)) h
