-- What is noted of a process step by step is what it changes, and its scope is left as it was.
use Rattle.std.proofs.Common.{◌≡◌, ℕ, ◌+◌, ◌<◌, ◌≤◌, true, List, [], ◌∷◌, ◌++◌, length, map, take, drop, get_or}
use Rattle.std.proofs.Common.{Some, None, refl, sym, ap, subst, ◌∙◌, append_assoc}
use Rattle.std.proofs.lemmas.List.{append-nil, take_all}
use Rattle.std.proofs.Math.Seq.{drop-append_seam}
use Rattle.occam_parser.specs.declared.tree.Expr.{Expr}
use Rattle.occam_parser.specs.Views.{expression_of}
use Rattle.occam_parser.specs.Lines.{Declaration, Replicator, block_word}
use Rattle.occam_parser.specs.Blocks.{Process, Declared, Does, Construct, Act, Block, Replicated, Body, One, Part}
use Rattle.occam_parser.specs.Blocks.{Components, NoComponent, Further, Component, Plain, Chosen, Guarded}
use Rattle.occam_parser.specs.BlockReading.{with_declarations}
use Rattle.occam_parser.specs.BlockViews.{all_of}
use Rattle.occam_parser.proofs.SeenBlocks.{all_push}
use Rattle.scalar_ranges.specs.Entries.{Meaning, Entry}
use Rattle.scalar_ranges.specs.Environments.{item_at}
use Rattle.scalar_ranges.specs.Moves.{Known}
use Rattle.program_uses.specs.declared.changes.Changes.{Changes}
use Rattle.program_uses.specs.declared.finding.Finding.{Finding}
use Rattle.program_uses.specs.declared.listing.ChangeLists.{ChangeLists}
use Rattle.program_uses.specs.Changes.{changed_by_actual, changed_by_actuals, changed_by, changed_by_construct}
use Rattle.program_uses.specs.Changes.{changed_by_body, changed_by_components, changed_by_component, changed_by_one}
use Rattle.program_uses.specs.Changes.{Notes}
use Rattle.program_uses.specs.Finding.{Finds}
use Rattle.program_uses.specs.Listing.{IsListed, Keeps, AreListed, ListsWithin, ListsBody, ListsComponents}
use Rattle.program_uses.specs.Listing.{ListsComponent, ListsOne}
use Rattle.program_uses.specs.Declaring.{add, add_outline}
use Rattle.program_uses.specs.Entering.{add_outlines}
use Rattle.program_uses.specs.Indices.{is_seq, is_sequence, index_meaning}
use Rattle.program_uses.specs.Signatures.{Parameter}
use Rattle.program_uses.proofs.Adding.{gathered, gathered_next, gathered_same, taken_one}

-- ---- numbers

pub notes_none : (s : Changes) → Notes s s []
notes_none s = record { complete = λ e. e; numbers = λ e. sym (append-nil s.numbers.items) }

pub notes_both : {s t w : Changes} {ns ms : List ℕ} → Notes s t ns → Notes t w ms → Notes s w (ns ++ ms)
notes_both {s = s} {ns = ns} {ms = ms} a b = record {
  complete = λ e. a.complete (b.complete e);
  numbers = λ e. b.numbers e ∙ ap (λ items. items ++ ms) (a.numbers (b.complete e))
      ∙ append_assoc s.numbers.items ns ms;
}

pub notes_as : {s t : Changes} {ns ms : List ℕ} → ns ≡ ms → Notes s t ns → Notes s t ms
notes_as {s = s} {t = t} e a = subst (Notes s t) e a

-- the same if memory was enough
pub notes_if : {s t : Changes} {ns ms : List ℕ} → (t.complete ≡ true → ns ≡ ms) → Notes s t ns → Notes s t ms
notes_if {s = s} same a = record {
  complete = a.complete;
  numbers = λ e. a.numbers e ∙ ap (λ ns. s.numbers.items ++ ns) (same e);
}

-- ---- actuals

abbrev pub actual_changes : List Entry → List Parameter → ℕ → Expr → List ℕ
actual_changes es ps n x = changed_by_actual es (item_at n ps) (expression_of x)

pub actuals_noted : (es : List Entry) (ps : List Parameter) (xs : List Expr)
    → gathered (actual_changes es ps) 0 xs ≡ changed_by_actuals es ps (map expression_of xs)
unfolding gathered
actuals_noted es ps [] = refl
actuals_noted es [] (x ∷ xs) = gathered_same (actual_changes es []) 0 xs ∙ actuals_noted es [] xs
actuals_noted es (p ∷ ps) (x ∷ xs) =
    ap (λ ns. changed_by_actual es (Some p) (expression_of x) ++ ns)
    (gathered_same (actual_changes es (p ∷ ps)) 0 xs ∙ actuals_noted es ps xs)

pub notes_first : {A : Type 0} (f : ℕ → A → List ℕ) (s : Changes) → Notes s s (gathered f 0 [])
unfolding gathered
notes_first f s = notes_none s

pub notes_next : {A : Type 0} (f : ℕ → A → List ℕ) (xs : List A) (i : ℕ) (x d : A) {s t w : Changes} → i < length xs
    → x ≡ get_or xs i d → Notes s t (gathered f 0 (take i xs)) → Notes t w (f i x)
    → Notes s w (gathered f 0 (take (i + 1) xs))
notes_next f xs i x d h is a b = notes_as (gathered_next f xs i x d h is) (notes_both a b)

pub notes_all : (es : List Entry) (ps : List Parameter) (xs : List Expr) (i : ℕ) {s t : Changes} → length xs ≤ i
    → Notes s t (gathered (actual_changes es ps) 0 (take i xs))
    → Notes s t (changed_by_actuals es ps (map expression_of xs))
notes_all es ps xs i h a =
    notes_as (ap (gathered (actual_changes es ps) 0) (take_all i xs h) ∙ actuals_noted es ps xs) a

-- ---- lists

mutual
  kept : (t u : ChangeLists) (signatures : List (List Parameter)) (es : List Entry) (p : Process) → Keeps t u
      → AreListed t signatures es p → AreListed u signatures es p
  kept t u signatures es (Declared d p) keeps x = kept t u signatures (add_outline d es) p keeps x
  kept t u signatures es (Does line c) keeps x =
      (keeps line (changed_by_construct signatures es c) x.0, kept_within t u signatures es c keeps x.1)

  pub kept_within : (t u : ChangeLists) (signatures : List (List Parameter)) (es : List Entry) (c : Construct)
      → Keeps t u → ListsWithin t signatures es c → ListsWithin u signatures es c
  kept_within t u signatures es (Act action) keeps x = tt
  kept_within t u signatures es (Block kind cs) keeps x = kept_components t u signatures es cs keeps x
  kept_within t u signatures es (Replicated r b) keeps x = kept_body t u signatures es r b keeps x

  kept_body : (t u : ChangeLists) (signatures : List (List Parameter)) (es : List Entry) (r : Replicator) (b : Body)
      → Keeps t u → ListsBody t signatures es r b → ListsBody u signatures es r b
  kept_body t u signatures es r (One kind c) keeps x =
      kept_component t u signatures (add r.name (index_meaning (is_seq (block_word kind)) None) es) c keeps x

  kept_components : {part : Part} (t u : ChangeLists) (signatures : List (List Parameter)) (es : List Entry)
      (cs : Components part) → Keeps t u → ListsComponents t signatures es cs → ListsComponents u signatures es cs
  kept_components t u signatures es NoComponent keeps x = tt
  kept_components t u signatures es (Further cs c) keeps x =
      (kept_components t u signatures es cs keeps x.0, kept_component t u signatures es c keeps x.1)

  kept_component : {part : Part} (t u : ChangeLists) (signatures : List (List Parameter)) (es : List Entry)
      (c : Component part) → Keeps t u → ListsComponent t signatures es c → ListsComponent u signatures es c
  kept_component t u signatures es (Plain p) keeps x = kept t u signatures es p keeps x
  kept_component t u signatures es (Chosen line e p) keeps x = kept t u signatures es p keeps x
  kept_component t u signatures es (Guarded line g p) keeps x = kept t u signatures es p keeps x

pub listed_behind : (t : ChangeLists) (signatures : List (List Parameter)) (es : List Entry) (ds : List Declaration)
    (line : ℕ) (c : Construct) → IsListed t line (changed_by_construct signatures (add_outlines ds es) c)
    → ListsWithin t signatures (add_outlines ds es) c → AreListed t signatures es (with_declarations ds (Does line c))
listed_behind t signatures es [] line c x y = (x, y)
listed_behind t signatures es (d ∷ ds) line c x y = listed_behind t signatures (add_outline d es) ds line c x y

pub listed_in_turn : (t : ChangeLists) (signatures : List (List Parameter)) (es : List Entry) (r : Replicator)
    (b : Body)
    (m : Meaning) → m ≡ index_meaning (is_sequence b) None → ListsOne t signatures (add r.name m es) b
    → ListsBody t signatures es r b
listed_in_turn t signatures es r (One kind c) m means x =
    subst (λ m. ListsComponent t signatures (add r.name m es) c) means x

-- The numbers noted since there were `first` are those of a construct.
pub noted_since : {s t u : Changes} {ns : List ℕ} (first : ℕ) → first ≡ length s.numbers.items → Notes s t []
    → Notes t u ns → u.complete ≡ true → drop first u.numbers.items ≡ ns
noted_since {s = s} {ns = ns} first long entered found complete =
    (λ i. drop (long i) (found.numbers complete i))
    ∙ ap (λ xs. drop (length s.numbers.items) (xs ++ ns))
    (entered.numbers (found.complete complete) ∙ append-nil s.numbers.items)
    ∙ drop-append_seam s.numbers.items ns

-- ---- parts of a process

pub finds_only : {s t : Finding} {k : Known} {ns : List ℕ} → Notes s.changes t.changes ns → t.lists ≡ s.lists
    → Finds s t k k ns (λ t. Unit {0})
finds_only {s = s} a same = record {
  notes = a;
  keeps = λ line ns x. subst (λ t. IsListed t line ns) (sym same) x;
  lists = λ e. tt;
  scope = refl;
}

pub finds_at : {A : Type 0} (changed : A → List ℕ) (Lists : A → ChangeLists → Type 0) {x y : A} {s t : Finding}
    {k l : Known} → x ≡ y → Finds s t k l (changed x) (Lists x) → Finds s t k l (changed y) (Lists y)
finds_at changed Lists {s = s} {t = t} {k = k} {l = l} e a =
    subst (λ x. Finds s t k l (changed x) (Lists x)) e a

pub finds_next : {part : Part} {A : Type 0} (signatures : List (List Parameter)) (f : A → Component part) (xs : List A)
    (i : ℕ) (x : A) {s t w : Finding} {k l m : Known} → i < length xs → x ≡ get_or xs i x
    → Finds s t k l (changed_by_components signatures k.entries (all_of (map f (take i xs))))
    (λ t. ListsComponents t signatures k.entries (all_of (map f (take i xs))))
    → Finds t w l m (changed_by_component signatures l.entries (f x))
    (λ t. ListsComponent t signatures l.entries (f x))
    → Finds s w k m (changed_by_components signatures k.entries (all_of (map f (take (i + 1) xs))))
    (λ t. ListsComponents t signatures k.entries (all_of (map f (take (i + 1) xs))))
finds_next signatures f xs i x {t = t} {w = w} {k = k} {m = m} h is before next =
    let es = k.entries in
    let cs = all_of (map f (take i xs)) in
    let last : Finds t w k m (changed_by_component signatures es (f x)) (λ t. ListsComponent t signatures es (f x)) =
    subst (λ l. Finds t w l m (changed_by_component signatures l.entries (f x))
    (λ t. ListsComponent t signatures l.entries (f x))) before.scope next in
    finds_at (changed_by_components signatures es) (λ cs t. ListsComponents t signatures es cs)
    (sym (all_push f (take i xs) (take (i + 1) xs) x (taken_one xs i x x h is)))
    (record {
      notes = notes_both before.notes last.notes;
      keeps = λ line ns x. last.keeps line ns (before.keeps line ns x);
      lists = λ e. (
        kept_components t.lists w.lists signatures es cs last.keeps
            (before.lists (last.notes.complete e)),
        last.lists e,
      );
      scope = last.scope;
    })

pub finds_each : {part : Part} {A : Type 0} (signatures : List (List Parameter)) (es : List Entry)
    (f : A → Component part) (items others : List A) (i : ℕ) {s t : Finding} {k l : Known} → length items ≤ i
    → items ≡ others → Finds s t k l (changed_by_components signatures es (all_of (map f (take i items))))
    (λ t. ListsComponents t signatures es (all_of (map f (take i items))))
    → Finds s t k l (changed_by_components signatures es (all_of (map f others)))
    (λ t. ListsComponents t signatures es (all_of (map f others)))
finds_each signatures es f items others i done same x =
    finds_at (λ xs. changed_by_components signatures es (all_of (map f xs)))
    (λ xs t. ListsComponents t signatures es (all_of (map f xs))) (take_all i items done ∙ same) x

pub changes_behind : (signatures : List (List Parameter)) (es : List Entry) (ds : List Declaration) (line : ℕ)
    (c : Construct) → changed_by_construct signatures (add_outlines ds es) c
    ≡ changed_by signatures es (with_declarations ds (Does line c))
changes_behind signatures es [] line c = refl
changes_behind signatures es (d ∷ ds) line c = changes_behind signatures (add_outline d es) ds line c

pub changes_in_turn : (signatures : List (List Parameter)) (es : List Entry) (r : Replicator) (b : Body) (m : Meaning)
    → m ≡ index_meaning (is_sequence b) None
    → changed_by_one signatures (add r.name m es) b ≡ changed_by_body signatures es r b
changes_in_turn signatures es r (One kind c) m means =
    ap (λ m. changed_by_component signatures (add r.name m es) c) means
