-- A scope while names are declared in it, one declaration after another.
use Rattle.std.proofs.Common.{◌≡◌, ℕ, ◌+◌, ◌<◌, true, false, List, [], ◌∷◌, ◌++◌, length, map, take, get_or}
use Rattle.std.proofs.Common.{refl, sym, ap, subst, ◌∙◌, ◌||◌, append_assoc}
use Rattle.std.proofs.lemmas.List.{append-nil}
use Rattle.occam_parser.specs.declared.tree.Declaration as code_declaration
use Rattle.occam_parser.specs.Lines.{Declaration}
use Rattle.occam_parser.specs.LineViews.{declaration_of}
use Rattle.scalar_ranges.specs.Entries.{Entry}
use Rattle.scalar_ranges.specs.Moves.{Known}
use Rattle.program_uses.specs.declared.uses.Use.{Use}
use Rattle.program_uses.specs.declared.uses.Uses.{Uses}
use Rattle.program_uses.specs.Sets.{has, is_among, Adds}
use Rattle.program_uses.specs.Actions.{uses_of_declaration}
use Rattle.program_uses.specs.Declaring.{add_outline}
use Rattle.program_uses.specs.Extending.{Extends}
use Rattle.program_uses.specs.Entering.{Enters, uses_of_declarations, add_outlines}
use Rattle.program_uses.proofs.Adding.{adds_both, adds_as}
use Rattle.program_uses.proofs.NextInTurn.{seen_more}

pub enters_ok : (s : Uses) (k l : Known) {wanted : List Entry} → Extends k l → l.entries ≡ wanted
    → Enters s k.entries l.entries wanted
enters_ok s k l extends is = record { entries = λ e. is; inner = extends.inner; kept = extends.entries }

-- where memory was not enough, whatever was wanted
pub enters_err : (s : Uses) (k l : Known) {wanted : List Entry} → Extends k l → s.complete ≡ false
    → Enters s k.entries l.entries wanted
enters_err s k l extends lacks = record {
  entries = λ e. (let x = sym lacks ∙ e in absurd cc);
  inner = extends.inner;
  kept = extends.entries;
}

pub enters_none : (s : Uses) (es : List Entry) → Enters s es es es
enters_none s es = record { entries = λ k. refl; inner = []; kept = refl }

-- more names after those that are wanted
pub enters_next : {s t : Uses} {a b c wanted : List Entry} (f : List Entry → List Entry) → Enters s a b wanted
    → (t.complete ≡ true → s.complete ≡ true) → Enters t b c (f b) → Enters t a c (f wanted)
enters_next {a = a} f x complete y = record {
  entries = λ e. y.entries e ∙ ap f (x.entries (complete e));
  inner = y.inner ++ x.inner;
  kept = y.kept ∙ ap (λ k. y.inner ++ k) x.kept ∙ sym (append_assoc y.inner x.inner a);
}

pub enters_as : {s : Uses} {before after wanted other : List Entry} → wanted ≡ other → Enters s before after wanted
    → Enters s before after other
enters_as {s} {before} {after} e x = subst (Enters s before after) e x

-- what is said of an incomplete set is nothing
pub adds_if : {s t : Uses} {us vs : List Use} → (t.complete ≡ true → us ≡ vs) → Adds s t us → Adds s t vs
adds_if {s = s} same a = record {
  complete = a.complete;
  has = λ e u. a.has e u ∙ (λ i. has s u || is_among (same e i) u);
}

pub adds_no_more : {s t w : Uses} {us : List Use} → Adds s t us → Adds t w [] → Adds s w us
adds_no_more {us = us} a b = adds_as (append-nil us) (adds_both a b)

-- ---- declarations

uses_last : (es : List Entry) (ds : List Declaration) (d : Declaration)
    → uses_of_declarations es (ds ++ d ∷ [])
    ≡ uses_of_declarations es ds ++ uses_of_declaration (add_outlines ds es) d
uses_last es [] d = append-nil (uses_of_declaration es d)
uses_last es (x ∷ ds) d =
    ap (λ us. uses_of_declaration es x ++ us) (uses_last (add_outline x es) ds d)
    ∙ sym (append_assoc (uses_of_declaration es x) (uses_of_declarations (add_outline x es) ds)
    (uses_of_declaration (add_outlines ds (add_outline x es)) d))

pub declarations_use_next : (es : List Entry) (xs : List code_declaration.Declaration) (i : ℕ)
    (x d : code_declaration.Declaration) → i < length xs → x ≡ get_or xs i d
    → uses_of_declarations es (map declaration_of (take i xs))
    ++ uses_of_declaration (add_outlines (map declaration_of (take i xs)) es) (declaration_of x)
    ≡ uses_of_declarations es (map declaration_of (take (i + 1) xs))
declarations_use_next es xs i x d h is =
    sym (uses_last es (map declaration_of (take i xs)) (declaration_of x))
    ∙ ap (uses_of_declarations es) (seen_more declaration_of xs i x d h is)
