-- Declarations are gone over one after the other.
use Rattle.std.proofs.Common.{◌≡◌, ℕ, ◌+◌, ◌<◌, ◌≤◌, List, [], ◌∷◌, ◌++◌, length, map, drop, get_or, sym, ap, ◌∙◌}
use Rattle.std.proofs.lemmas.List.{append_assoc, append-nil, at_drop_more, at_drop_all}
use Rattle.occam_parser.specs.declared.tree.Declaration as code_declaration
use Rattle.occam_parser.specs.LineViews.{declaration_of}
use Rattle.scalar_ranges.specs.declared.scope.Scope as code_scope
use Rattle.scalar_ranges.specs.Entries.{Meaning}
use Rattle.scalar_ranges.specs.Scopes.{known_of, entries_of}
use Rattle.program_uses.specs.Declaring.{add_all}
use Rattle.program_uses.specs.InTurn.{in_turn}
use Rattle.code_generator.specs.declared.limits.Limits.{Limits}
use Rattle.code_generator.specs.declared.processes.ProcessWriter.{ProcessWriter}
use Rattle.code_pieces.specs.Pieces.{Piece}
use Rattle.line_pieces.specs.declared.frame.Frame as code_frame
use Rattle.line_pieces.specs.Declarations.{declaration_code, with_names}
use Rattle.line_pieces.specs.FrameViews.{frame_seen}
use Rattle.code_generator.specs.Processes.{Site, with_declaration}
use Rattle.code_generator.specs.Written.{site_of, Declares, DeclaresAll, declarations_code, IsTooMuch}
use Rattle.code_generator.proofs.Exceeding.{much_left}

-- where names are declared that take some words each, and have a meaning
pub names_placed : (names : List (List ℕ)) (s : ProcessWriter) {count words : ℕ} {m meaning : Meaning}
    (frame : code_frame.Frame) (scope : code_scope.Scope)
    → frame_seen frame ≡ with_names count names (frame_seen s.frame) → count ≡ words
    → entries_of scope ≡ add_all names m (entries_of s.scope) → m ≡ meaning
    → (known_of scope).blocks ≡ (known_of s.scope).blocks
    → site_of (record s { frame = frame; scope = scope }) ≡ record {
      frame = with_names words names (frame_seen s.frame);
      known = record { entries = add_all names meaning (entries_of s.scope); blocks = (known_of s.scope).blocks };
      label = s.label;
    }
names_placed names s frame scope framed counted known means blocks =
    let homes = framed ∙ ap (λ n. with_names n names (frame_seen s.frame)) counted in
    let entries = known ∙ ap (λ x. add_all names x (entries_of s.scope)) means in
    λ i. record {
      frame = homes i;
      known = record { entries = entries i; blocks = blocks i };
      label = s.label;
    }

pub declared_next : (ds : List code_declaration.Declaration) (i : ℕ) (x : code_declaration.Declaration)
    (s t : ProcessWriter) (start : List Piece) → i < length ds → x ≡ get_or ds i x
    → s.listing ++ declarations_code (map declaration_of (drop i ds)) (site_of s) ≡ start
    → Declares s t (declaration_of x)
    → t.listing ++ declarations_code (map declaration_of (drop (i + 1) ds)) (site_of t) ≡ start
declared_next ds i x s t start h is b d =
    let rest = map declaration_of (drop (i + 1) ds) in
    let step : declarations_code (map declaration_of (drop i ds)) (site_of s)
    ≡ declaration_code (site_of s).known.entries (declaration_of x) s.frame.top
    ++ declarations_code rest (with_declaration (declaration_of x) (site_of s)) =
    at_drop_more (λ (xs : List code_declaration.Declaration). declarations_code (map declaration_of xs) (site_of s))
    ds i x h
    ∙ ap (λ y. declarations_code (declaration_of y ∷ rest) (site_of s)) (sym is) in
    (λ j. d.code j ++ declarations_code rest (d.site j))
    ∙ append_assoc s.listing (declaration_code (site_of s).known.entries (declaration_of x) s.frame.top)
    (declarations_code rest (with_declaration (declaration_of x) (site_of s)))
    ∙ ap (λ l. s.listing ++ l) (sym step) ∙ b

pub placed_next : (ds : List code_declaration.Declaration) (i : ℕ) (x : code_declaration.Declaration)
    (s t : ProcessWriter) (final : Site) → i < length ds → x ≡ get_or ds i x
    → in_turn with_declaration (map declaration_of (drop i ds)) (site_of s) ≡ final
    → Declares s t (declaration_of x)
    → in_turn with_declaration (map declaration_of (drop (i + 1) ds)) (site_of t) ≡ final
placed_next ds i x s t final h is b d =
    let rest = map declaration_of (drop (i + 1) ds) in
    let step : in_turn with_declaration (map declaration_of (drop i ds)) (site_of s)
    ≡ in_turn with_declaration rest (with_declaration (declaration_of x) (site_of s)) =
    at_drop_more
    (λ (xs : List code_declaration.Declaration). in_turn with_declaration (map declaration_of xs) (site_of s)) ds i x h
    ∙ ap (λ y. in_turn with_declaration (declaration_of y ∷ rest) (site_of s)) (sym is) in
    ap (in_turn with_declaration rest) d.site ∙ sym step ∙ b

pub declared_done : (ds : List code_declaration.Declaration) (i : ℕ) (s t : ProcessWriter) → length ds ≤ i
    → t.listing ++ declarations_code (map declaration_of (drop i ds)) (site_of t)
    ≡ s.listing ++ declarations_code (map declaration_of ds) (site_of s)
    → in_turn with_declaration (map declaration_of (drop i ds)) (site_of t)
    ≡ in_turn with_declaration (map declaration_of ds) (site_of s) → DeclaresAll s t (map declaration_of ds)
declared_done ds i s t h a b =
    let none : declarations_code (map declaration_of (drop i ds)) (site_of t) ≡ [] =
    at_drop_all (λ (xs : List code_declaration.Declaration). declarations_code (map declaration_of xs) (site_of t))
    ds i h in
    let still : in_turn with_declaration (map declaration_of (drop i ds)) (site_of t) ≡ site_of t =
    at_drop_all
    (λ (xs : List code_declaration.Declaration). in_turn with_declaration (map declaration_of xs) (site_of t)) ds i h in
    record {
      code = sym (ap (λ l. t.listing ++ l) none ∙ append-nil t.listing) ∙ a;
      site = sym still ∙ b;
    }

-- one declaration is too much, and so are all of them
pub declared_exceed : (l : Limits) (ds : List code_declaration.Declaration) (i : ℕ) (x : code_declaration.Declaration)
    (s : ProcessWriter) (old whole : List Piece) → i < length ds → x ≡ get_or ds i x
    → s.listing ++ declarations_code (map declaration_of (drop i ds)) (site_of s) ≡ old ++ whole
    → IsTooMuch l s.listing (declaration_code (site_of s).known.entries (declaration_of x) s.frame.top)
    → IsTooMuch l old whole
declared_exceed l ds i x s old whole h is b much =
    let here = declaration_code (site_of s).known.entries (declaration_of x) s.frame.top in
    let rest = map declaration_of (drop (i + 1) ds) in
    let later = declarations_code rest (with_declaration (declaration_of x) (site_of s)) in
    let step : declarations_code (map declaration_of (drop i ds)) (site_of s) ≡ here ++ later =
    at_drop_more (λ (xs : List code_declaration.Declaration). declarations_code (map declaration_of xs) (site_of s))
    ds i x h
    ∙ ap (λ y. declarations_code (declaration_of y ∷ rest) (site_of s)) (sym is) in
    much_left l (s.listing ++ here) later (old ++ whole)
    (append_assoc s.listing here later ∙ ap (λ ps. s.listing ++ ps) (sym step) ∙ b) much
