-- Code is appended part by part.
use Rattle.std.proofs.Common.{◌≡◌, ℕ, ◌+◌, ◌<◌, ◌≤◌, List, [], ◌∷◌, ◌++◌, length, map, take}
use Rattle.std.proofs.Common.{get_or, Option, Some, None, refl, sym, ap, subst, ◌∙◌}
use Rattle.std.proofs.Math.Seq.{take-append_seam}
use Rattle.std.proofs.lemmas.List.{append_assoc, append-nil, take_all, length-map}
use Rattle.std.specs.Global.{Vec}
use Rattle.occam_layout.specs.declared.mark.Mark.TheVariants as mark
use Rattle.occam_parser.specs.Terminals.{Mark}
use Rattle.occam_parser.specs.Lines.{Declaration, Constants, Variables, Channels}
use Rattle.occam_parser.specs.OneOrMore.{as_list}
use Rattle.occam_parser.specs.Blocks.{Process, Does, Construct, Part, Component}
use Rattle.occam_parser.specs.BlockReading.{with_declarations}
use Rattle.occam_parser.specs.BlockViews.{all_of}
use Rattle.occam_parser.proofs.SeenBlocks.{all_push}
use Rattle.scalar_ranges.specs.declared.scope.Scope as code_scope
use Rattle.scalar_ranges.specs.Entries.{Entry}
use Rattle.scalar_ranges.specs.Moves.{Known}
use Rattle.scalar_ranges.specs.Scopes.{known_of}
use Rattle.code_generator.specs.declared.calling.Surroundings as calling
use Rattle.code_generator.specs.CallViews.{surroundings_of}
use Rattle.program_uses.specs.Actions.{Around}
use Rattle.program_uses.specs.InTurn.{in_turn}
use Rattle.program_uses.proofs.Adding.{taken_one}
use Rattle.usage_checks.specs.AfterProcesses.{inside, after_construct, after_components, after_component}
use Rattle.line_pieces.specs.declared.frame.Frame as code_frame
use Rattle.code_generator.specs.declared.processes.ProcessWriter.{ProcessWriter}
use Rattle.code_pieces.specs.declared.piece.RowEntry.{RowEntry}
use Rattle.code_pieces.specs.Pieces.{Piece, Code, no_code, before, then_code, closed_by}
use Rattle.line_pieces.specs.Homes.{Home, Word}
use Rattle.line_pieces.specs.FrameViews.{frame_seen}
use Rattle.line_pieces.specs.HomeViews.{homes_seen, home_seen}
use Rattle.line_pieces.specs.Declarations.{Frame, with_words, with_names, declared, words_in, channels_in, home_for}
use Rattle.line_pieces.specs.Declarations.{declaration_code}
use Rattle.code_generator.specs.Processes.{Site, Surroundings, with_declaration, at_place, process_code, construct_code}
use Rattle.code_generator.specs.Processes.{components_code, component_code}
use Rattle.code_generator.specs.Written.{site_of, Appends, Writes, DeclaresAll, declarations_code}
use Rattle.code_generator.specs.Written.{WritesProcess, WritesConstruct, WritesSeq, WritesOne}

-- ---- code is appended

pub appends_before : (code : Option Code) (old mid new ps : List Piece) (n : ℕ) → mid ≡ old ++ ps
    → Appends mid new n code → Appends old new n (before ps code)
appends_before None old mid new ps n m a = a
appends_before (Some c) old mid new ps n m a =
    (a.0 ∙ ap (λ l. l ++ c.pieces) m ∙ append_assoc old ps c.pieces, a.1)

pub appends_closed : (code : Option Code) (old mid new ps : List Piece) (n : ℕ) → Appends old mid n code
    → new ≡ mid ++ ps → Appends old new n (closed_by ps code)
appends_closed None old mid new ps n a e = a
appends_closed (Some c) old mid new ps n a e =
    (e ∙ ap (λ l. l ++ ps) a.0 ∙ append_assoc old c.pieces ps, a.1)

pub appends_then : (code : Option Code) (next : ℕ → Option Code) (old mid new : List Piece) (n m : ℕ)
    → Appends old mid n code → Appends mid new m (next n) → Appends old new m (then_code code next)
appends_then None next old mid new n m a b = a
appends_then (Some c) next old mid new n m a b =
    appends_before (next c.labels) old mid new c.pieces m a.0 (subst (λ k. Appends mid new m (next k)) a.1 b)

pub writes_none : (s : ProcessWriter) → Writes s s (no_code s.label) (known_of s.scope)
writes_none s = record { code = (sym (append-nil s.listing), refl); known = refl; frame = refl }

-- code that is followed by none
pub then_none : (code : Option Code) → then_code code (λ label. no_code label) ≡ code
then_none None = refl
then_none (Some c) = ap (λ l. Some (record { pieces = l; labels = c.labels })) (append-nil c.pieces)

-- What comes after some code depends on the frame alone, which is as before.
pub writes_then : (code : Option Code) (next : Frame → ℕ → Option Code) {s t w : ProcessWriter} {known after : Known}
    → Writes s t code known → Appends t.listing w.listing w.label (next (frame_seen t.frame) t.label)
    → known_of w.scope ≡ after → frame_seen w.frame ≡ frame_seen t.frame
    → Writes s w (then_code code (next (frame_seen s.frame))) after
writes_then code next {s} {t} {w} first second known frame = record {
  code = appends_then code (next (frame_seen s.frame)) s.listing t.listing w.listing t.label w.label first.code
      (subst (λ f. Appends t.listing w.listing w.label (next f t.label)) first.frame second);
  known = known;
  frame = frame ∙ first.frame;
}

-- the place after some code
pub site_after : {s t : ProcessWriter} {code : Option Code} {after : Known} → Writes s t code after
    → site_of t ≡ at_place after t.label (site_of s)
site_after {t = t} x = λ i. record { frame = x.frame i; known = x.known i; label = t.label }

-- then what is known moves
pub writes_moved : {s t : ProcessWriter} {code : Option Code} {after : Known} (scope : code_scope.Scope)
    (move : Known → Known) → known_of scope ≡ move (known_of t.scope) → Writes s t code after
    → Writes s (record t { scope = scope }) code (move after)
writes_moved scope move e x = record { code = x.code; known = e ∙ ap move x.known; frame = x.frame }

-- ---- names that are left

-- one frame has some names more
abbrev pub Grows : (f g : Frame) → Type 0
Grows f g = (more : List Home) × (g.homes ≡ f.homes ++ more)

grows_names : (count : ℕ) (names : List (List ℕ)) (f : Frame) → Grows f (with_names count names f)
grows_names count [] f = ([], sym (append-nil f.homes))
grows_names count (name ∷ names) f =
    let r = grows_names count names (with_words count f) in
    (Word f.top ∷ r.0, r.1 ∙ append_assoc f.homes (Word f.top ∷ []) r.0)

grows_declared : (es : List Entry) (d : Declaration) (f : Frame) → Grows f (declared es d f)
grows_declared es (Constants c) f = (home_for es c.value_type c.value ∷ [], refl)
grows_declared es (Variables n) f = grows_names (words_in es n.value_type n.size) (as_list n.names) f
grows_declared es (Channels n) f = grows_names (channels_in es n.size) (as_list n.names) f

grows_all : (ds : List Declaration) (s : Site) → Grows s.frame (in_turn with_declaration ds s).frame
grows_all [] s = ([], sym (append-nil s.frame.homes))
grows_all (d ∷ ds) s =
    let r = grows_all ds (with_declaration d s) in
    let q = grows_declared s.known.entries d s.frame in
    (q.0 ++ r.0, r.1 ∙ ap (λ hs. hs ++ r.0) q.1 ∙ append_assoc s.frame.homes q.0 r.0)

homes_left : (ds : List Declaration) (s : Site)
    → take (length s.frame.homes) (in_turn with_declaration ds s).frame.homes ≡ s.frame.homes
homes_left ds s =
    let r = grows_all ds s in
    ap (take (length s.frame.homes)) r.1 ∙ take-append_seam s.frame.homes r.0

-- what is known outside stays
outer_names : (count : ℕ) (names : List (List ℕ)) (f : Frame) → (with_names count names f).outer ≡ f.outer
outer_names count [] f = refl
outer_names count (name ∷ names) f = outer_names count names (with_words count f)

outer_declared : (es : List Entry) (d : Declaration) (f : Frame) → (declared es d f).outer ≡ f.outer
outer_declared es (Constants c) f = refl
outer_declared es (Variables n) f = outer_names (words_in es n.value_type n.size) (as_list n.names) f
outer_declared es (Channels n) f = outer_names (channels_in es n.size) (as_list n.names) f

outer_left : (ds : List Declaration) (s : Site) → (in_turn with_declaration ds s).frame.outer ≡ s.frame.outer
outer_left [] s = refl
outer_left (d ∷ ds) s = outer_left ds (with_declaration d s) ∙ outer_declared s.known.entries d s.frame

-- ---- declarations, and then a construct

before_none : (code : Option Code) → before [] code ≡ code
before_none None = refl
before_none (Some c) = refl

before_both : (ps qs : List Piece) (code : Option Code) → before ps (before qs code) ≡ before (ps ++ qs) code
before_both ps qs None = refl
before_both ps qs (Some c) =
    ap (λ l. Some (record { pieces = l; labels = c.labels })) (sym (append_assoc ps qs c.pieces))

pub code_behind : (here : Surroundings) (ds : List Declaration) (line : ℕ) (c : Construct) (s : Site)
    → process_code here (with_declarations ds (Does line c)) s
    ≡ before (declarations_code ds s) (construct_code here line c (in_turn with_declaration ds s))
code_behind here [] line c s = sym (before_none (construct_code here line c s))
code_behind here (d ∷ ds) line c s =
    ap (before (declaration_code s.known.entries d s.frame.top)) (code_behind here ds line c (with_declaration d s))
    ∙ before_both (declaration_code s.known.entries d s.frame.top) (declarations_code ds (with_declaration d s))
    (construct_code here line c (in_turn with_declaration ds (with_declaration d s)))

known_behind : (a : Around) (ds : List Declaration) (line : ℕ) (c : Construct) (s : Site)
    → inside a (with_declarations ds (Does line c)) s.known
    ≡ after_construct a line c (in_turn with_declaration ds s).known
known_behind a [] line c s = refl
known_behind a (d ∷ ds) line c s = known_behind a ds line c (with_declaration d s)

pub writes_behind : {s t w : ProcessWriter} (around : calling.Surroundings) (ds : List Declaration) (line : ℕ)
    (c : Construct) (p : Process) (left : code_frame.Frame) (count : ℕ) → with_declarations ds (Does line c) ≡ p
    → DeclaresAll s t ds → WritesConstruct t w around line c → count ≡ length s.frame.homes.items
    → homes_seen left.homes.items ≡ take count (homes_seen w.frame.homes.items) → left.top ≡ s.frame.top
    → left.outer ≡ w.frame.outer → WritesProcess s (record w { frame = left }) around p
writes_behind {s} {t} {w} around ds line c p left count is declares rest long homes top same =
    let here = surroundings_of around in
    let a = here.around in
    let final = in_turn with_declaration ds (site_of s) in
    let long_seen : count ≡ length (site_of s).frame.homes = long ∙ sym (length-map s.frame.homes.items home_seen) in
    let all_homes : homes_seen w.frame.homes.items ≡ final.frame.homes =
    ap (λ (f : Frame). f.homes) rest.frame ∙ ap (λ (z : Site). z.frame.homes) declares.site in
    let kept : homes_seen left.homes.items ≡ homes_seen s.frame.homes.items =
    homes ∙ (λ i. take (long_seen i) (all_homes i)) ∙ homes_left ds (site_of s) in
    let outer : left.outer.items ≡ s.frame.outer.items =
    ap (λ (v : Vec RowEntry). v.items) same ∙ ap (λ (f : Frame). f.outer) rest.frame
    ∙ ap (λ (z : Site). z.frame.outer) declares.site ∙ outer_left ds (site_of s) in
    record {
      code = subst (λ q. Appends s.listing w.listing w.label (process_code here q (site_of s))) is
          (subst (λ o. Appends s.listing w.listing w.label o) (sym (code_behind here ds line c (site_of s)))
          (appends_before (construct_code here line c final) s.listing t.listing w.listing
          (declarations_code ds (site_of s)) w.label declares.code
          (subst (λ z. Appends t.listing w.listing w.label (construct_code here line c z)) declares.site rest.code)));
      known = rest.known ∙ ap (λ (z : Site). after_construct a line c z.known) declares.site
          ∙ sym (known_behind a ds line c (site_of s)) ∙ ap (λ q. inside a q (known_of s.scope)) is;
      frame = λ i. record { homes = kept i; top = top i; outer = outer i };
    }

-- ---- components of a SEQ

pub seq_next : {part : Part} {A : Type 0} (around : calling.Surroundings) (f : A → Component part) (xs : List A) (i : ℕ)
    (x : A) {s t w : ProcessWriter} → i < length xs → x ≡ get_or xs i x
    → WritesSeq s t around (all_of (map f (take i xs))) → WritesOne t w around (f x)
    → WritesSeq s w around (all_of (map f (take (i + 1) xs)))
seq_next around f xs i x {s} {t} {w} h is first one =
    let here = surroundings_of around in
    let a = here.around in
    let cs = all_of (map f (take i xs)) in
    subst (λ cs. WritesSeq s w around cs) (sym (all_push f (take i xs) (take (i + 1) xs) x (taken_one xs i x x h is)))
    (record {
      code = appends_then (components_code here cs (site_of s))
          (λ label. component_code here (f x)
          (at_place (after_components a (Mark mark.Seq) cs (known_of s.scope)) label (site_of s)))
          s.listing t.listing w.listing t.label w.label first.code
          (subst (λ z. Appends t.listing w.listing w.label (component_code here (f x) z)) (site_after first) one.code);
      known = one.known ∙ ap (after_component a (Mark mark.Seq) (f x)) first.known;
      frame = one.frame ∙ first.frame;
    })

pub seq_done : {part : Part} {A : Type 0} (around : calling.Surroundings) (f : A → Component part) (xs : List A) (i : ℕ)
    {s t : ProcessWriter} → length xs ≤ i → WritesSeq s t around (all_of (map f (take i xs)))
    → WritesSeq s t around (all_of (map f xs))
seq_done around f xs i {s} {t} h x = subst (λ ys. WritesSeq s t around (all_of (map f ys))) (take_all i xs h) x
