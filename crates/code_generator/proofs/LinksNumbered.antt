-- The number of a link is that of the last character of its name. The links of main are gone over one after the other.
use Rattle.std.proofs.Common.{◌≡◌, ℕ, ◌+◌, ◌-◌, ◌<◌, ◌≤◌, List, [], ◌∷◌, ◌++◌, length, map, take, get_or}
use Rattle.std.proofs.Common.{Option, Some, None, refl, sym, ap, ◌∙◌, arith}
use Rattle.std.proofs.lemmas.List.{append_assoc, append-nil, map-append, take_all}
use Rattle.std.specs.List.{slice_get}
use Rattle.occam_parser.specs.declared.tree.Formal as code_formal
use Rattle.occam_parser.specs.Lines.{Formal}
use Rattle.occam_parser.specs.LineViews.{formal_of}
use Rattle.program_meaning.specs.Meaning.{link_number, port_for}
use Rattle.program_uses.proofs.NextInTurn.{seen_more}
use Rattle.line_pieces.specs.Homes.{Home}
use Rattle.line_pieces.specs.Declarations.{Frame, with_home}
use Rattle.code_generator.specs.Programs.{home_of_port, with_links}

abbrev pub number_by : Option ℕ → ℕ
number_by None = 0
number_by (Some c) = c - 48

by_last : (c : ℕ) (cs : List ℕ) → link_number (c ∷ cs) ≡ number_by (slice_get (c ∷ cs) (length cs))
by_last c [] = refl
by_last c (d ∷ cs) = by_last d cs

pub numbered : (name : List ℕ) → link_number name ≡ number_by (slice_get name (length name - 1))
numbered [] = refl
numbered (c ∷ cs) = by_last c cs ∙ ap (λ n. number_by (slice_get (c ∷ cs) n)) (omega arith)

-- ---- links

abbrev home_for : Formal → Home
home_for f = home_of_port (port_for f)

links_more : (fs : List Formal) (f : Formal) (start : Frame)
    → with_home (home_for f) (with_links fs start) ≡ with_links (fs ++ f ∷ []) start
links_more fs f start =
    let homes = append_assoc start.homes (map home_for fs) (home_for f ∷ [])
    ∙ ap (λ hs. start.homes ++ hs) (sym (map-append home_for fs (f ∷ []))) in
    λ i. record start { homes = homes i }

pub links_none : (start : Frame) → start ≡ with_links [] start
links_none start = λ i. record start { homes = sym (append-nil start.homes) i }

pub links_next : (xs : List code_formal.Formal) (i : ℕ) (x : code_formal.Formal) (start before after : Frame)
    → i < length xs → x ≡ get_or xs i x → before ≡ with_links (map formal_of (take i xs)) start
    → after ≡ with_home (home_for (formal_of x)) before → after ≡ with_links (map formal_of (take (i + 1) xs)) start
links_next xs i x start before after h is b a =
    a ∙ ap (with_home (home_for (formal_of x))) b ∙ links_more (map formal_of (take i xs)) (formal_of x) start
    ∙ ap (λ fs. with_links fs start) (seen_more formal_of xs i x x h is)

pub links_done : (xs : List code_formal.Formal) (i : ℕ) (start after : Frame) → length xs ≤ i
    → after ≡ with_links (map formal_of (take i xs)) start → after ≡ with_links (map formal_of xs) start
links_done xs i start after h a = a ∙ ap (λ ys. with_links (map formal_of ys) start) (take_all i xs h)
