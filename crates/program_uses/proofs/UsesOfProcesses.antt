-- What is collected of a process step by step is what it uses, and its scope is left as it was.
use Rattle.std.proofs.Common.{◌≡◌, ℕ, ℤ, ◌+◌, ◌<◌, ◌≤◌, Bool, List, [], ◌∷◌, ◌++◌, length, map}
use Rattle.std.proofs.Common.{take, get_or, Option, refl, sym, ap, subst, ◌∙◌, append_assoc, add-one, inl, inr}
use Rattle.std.proofs.Common.{◌⊎◌}
use Rattle.std.proofs.lemmas.List.{take_all}
use Rattle.occam_parser.specs.Lines.{Declaration, Replicator, block_word}
use Rattle.occam_parser.specs.Blocks.{Does, Construct, Act, Block, Replicated, Body, One, Part, Component}
use Rattle.occam_parser.specs.BlockReading.{with_declarations}
use Rattle.occam_parser.specs.BlockViews.{all_of}
use Rattle.occam_parser.proofs.SeenBlocks.{all_push}
use Rattle.scalar_ranges.specs.Entries.{Meaning, Entry}
use Rattle.scalar_ranges.specs.Moves.{leave, Known}
use Rattle.scalar_ranges.specs.Nesting.{AreNested}
use Rattle.program_uses.specs.declared.indices.Turns.{Turns}
use Rattle.program_uses.specs.declared.telling.UsageFault.{UsageFault}
use Rattle.program_uses.specs.declared.uses.Use.{Use}
use Rattle.program_uses.specs.declared.uses.Uses.{Uses}
use Rattle.program_uses.specs.Sets.{Adds}
use Rattle.program_uses.specs.Actions.{Around, is_before, uses_of_declaration}
use Rattle.program_uses.specs.Components.{BreaksBlock, BreaksRepeated}
use Rattle.program_uses.specs.Declaring.{add, add_outline}
use Rattle.program_uses.specs.Entering.{Enters, uses_of_declarations, add_outlines}
use Rattle.program_uses.specs.Indices.{is_sequence, turns_of, in_turns, index_at, index_meaning}
use Rattle.program_uses.specs.Processes.{Collects, in_turn, uses_of, uses_of_construct, uses_of_body}
use Rattle.program_uses.specs.Processes.{uses_of_components, uses_of_component, uses_of_one}
use Rattle.program_uses.specs.Sharing.{Shares, SharesInConstruct, SharesInBody, SharesInTurns, SharesInComponents}
use Rattle.program_uses.specs.Sharing.{SharesInComponent, SharesInOne, InSomeTurn}
use Rattle.program_uses.proofs.Adding.{taken_one, adds_none, adds_both, adds_as}
use Rattle.program_uses.proofs.FaultsInOrder.{first_both, first_none, first_as}
use Rattle.program_uses.proofs.ScopesExtended.{left_again}

-- ---- declarations, and then a construct

pub uses_behind : (a : Around) (es : List Entry) (ds : List Declaration) (line : ℕ) (k : Construct)
    → uses_of_declarations es ds ++ uses_of_construct a (add_outlines ds es) line k
    ≡ uses_of a es (with_declarations ds (Does line k))
uses_behind a es [] line k = refl
uses_behind a es (d ∷ ds) line k =
    append_assoc (uses_of_declaration es d) (uses_of_declarations (add_outline d es) ds)
    (uses_of_construct a (add_outlines ds (add_outline d es)) line k)
    ∙ ap (λ us. uses_of_declaration es d ++ us) (uses_behind a (add_outline d es) ds line k)

pub shares_behind : (a : Around) (es : List Entry) (ds : List Declaration) (line : ℕ) (k : Construct)
    → SharesInConstruct a (add_outlines ds es) line k ≡ Shares a es (with_declarations ds (Does line k))
shares_behind a es [] line k = refl
shares_behind a es (d ∷ ds) line k = shares_behind a (add_outline d es) ds line k

-- ---- parts, one after another

-- what is used where no component shares anything
pub collects_only : {s t : Uses} {k : Known} {us : List Use} (o : Option UsageFault) → Adds s t us
    → Collects s t o o k k us (λ f. ⊥)
collects_only o a = record { uses = a; first = λ e. first_none o; scope = refl }

pub collects_none : (s : Uses) (o : Option UsageFault) (k : Known) → Collects s s o o k k [] (λ f. ⊥)
collects_none s o k = collects_only o (adds_none s)

pub collects_then : {s t w : Uses} {o m : Option UsageFault} {k l : Known} {us vs : List Use}
    {P : UsageFault → Type 0} → Adds s t us → Collects t w o m k l vs P → Collects s w o m k l (us ++ vs) P
collects_then a b = record { uses = adds_both a b.uses; first = b.first; scope = b.scope }

pub collects_as : {s t : Uses} {o m : Option UsageFault} {k l : Known} {us vs : List Use} {P : UsageFault → Type 0}
    → us ≡ vs → Collects s t o m k l us P → Collects s t o m k l vs P
collects_as e a = record { uses = adds_as e a.uses; first = a.first; scope = a.scope }

-- the same of other words for the same faults
pub collects_for : {s t : Uses} {o m : Option UsageFault} {k l : Known} {us : List Use} {P Q : UsageFault → Type 0}
    → ((f : UsageFault) → P f → Q f) → ((f : UsageFault) → Q f → P f) → Collects s t o m k l us P
    → Collects s t o m k l us Q
collects_for there back a = record { uses = a.uses; first = λ e. first_as there back (a.first e); scope = a.scope }

-- the same of the same thing
pub collects_at : {A : Type 0} (uses : A → List Use) (Breaks : A → UsageFault → Type 0) {x y : A} {s t : Uses}
    {o m : Option UsageFault} {k l : Known} → x ≡ y → Collects s t o m k l (uses x) (Breaks x)
    → Collects s t o m k l (uses y) (Breaks y)
collects_at uses Breaks {s = s} {t = t} {o = o} {m = m} {k = k} {l = l} e a =
    subst (λ x. Collects s t o m k l (uses x) (Breaks x)) e a

pub collects_both : {s t w : Uses} {o m n : Option UsageFault} {k l h : Known} {us : List Use}
    {P : UsageFault → Type 0} (uses : Known → List Use) (Breaks : Known → UsageFault → Type 0)
    → Collects s t o m k l us P → Collects t w m n l h (uses l) (Breaks l)
    → Collects s w o n k h (us ++ uses k) (λ f. P f ⊎ Breaks k f)
collects_both {t = t} {w = w} {o = o} {m = m} {n = n} {k = k} {h = h} uses Breaks a b =
    let next : Collects t w m n k h (uses k) (Breaks k) =
    subst (λ l. Collects t w m n l h (uses l) (Breaks l)) a.scope b in
    record {
      uses = adds_both a.uses next.uses;
      first = λ e. first_both o m n (a.first (next.uses.complete e)) (next.first e);
      scope = next.scope;
    }

-- ---- components

pub collects_next : {part : Part} {A : Type 0} (a : Around) (f : A → Component part) (xs : List A) (i : ℕ) (x : A)
    {s t w : Uses} {o m n : Option UsageFault} {k l h : Known} → i < length xs → x ≡ get_or xs i x
    → Collects s t o m k l (uses_of_components a k.entries (all_of (map f (take i xs))))
    (SharesInComponents a k.entries (all_of (map f (take i xs))))
    → Collects t w m n l h (uses_of_component a l.entries (f x)) (SharesInComponent a l.entries (f x))
    → Collects s w o n k h (uses_of_components a k.entries (all_of (map f (take (i + 1) xs))))
    (SharesInComponents a k.entries (all_of (map f (take (i + 1) xs))))
collects_next a f xs i x {k = k} h is before next =
    collects_at (uses_of_components a k.entries) (SharesInComponents a k.entries)
    (sym (all_push f (take i xs) (take (i + 1) xs) x (taken_one xs i x x h is)))
    (collects_both (λ l. uses_of_component a l.entries (f x)) (λ l. SharesInComponent a l.entries (f x)) before next)

pub collects_each : {part : Part} {A : Type 0} (a : Around) (es : List Entry) (f : A → Component part)
    (items others : List A) (i : ℕ) {s t : Uses} {o m : Option UsageFault} {k l : Known} → length items ≤ i
    → items ≡ others
    → Collects s t o m k l (uses_of_components a es (all_of (map f (take i items))))
    (SharesInComponents a es (all_of (map f (take i items))))
    → Collects s t o m k l (uses_of_components a es (all_of (map f others)))
    (SharesInComponents a es (all_of (map f others)))
collects_each a es f items others i done same x =
    collects_at (λ xs. uses_of_components a es (all_of (map f xs)))
    (λ xs. SharesInComponents a es (all_of (map f xs))) (take_all i items done ∙ same) x

-- what is checked for a construct as a whole, if it is a block, and what for its parts
abbrev pub BreaksWhole : Around → List Entry → Construct → ℕ → Type 0
BreaksWhole a es (Act action) n = ⊥
BreaksWhole a es (Block kind cs) n = BreaksBlock a (block_word kind) es cs n
BreaksWhole a es (Replicated r b) n = ⊥

abbrev pub SharesInParts : Around → List Entry → ℕ → Construct → UsageFault → Type 0
SharesInParts a es line (Act action) f = ⊥
SharesInParts a es line (Block kind cs) f = SharesInComponents a es cs f
SharesInParts a es line (Replicated r b) f = SharesInBody a es line r b f

-- a construct for which nothing is checked as a whole
pub collects_whole : (a : Around) (es : List Entry) (line : ℕ) (c d : Construct) {s t : Uses} {o m : Option UsageFault}
    {k l : Known} → c ≡ d → ((n : ℕ) → BreaksWhole a es c n → ⊥)
    → Collects s t o m k l (uses_of_construct a es line c) (SharesInParts a es line c)
    → Collects s t o m k l (uses_of_construct a es line d) (SharesInConstruct a es line d)
collects_whole a es line (Act action) d same nothing x =
    collects_at (uses_of_construct a es line) (SharesInConstruct a es line) same x
collects_whole a es line (Block kind cs) d same nothing x =
    collects_at (uses_of_construct a es line) (SharesInConstruct a es line) same
    (collects_for (λ f h. inl h) (λ f h. elim h [ inl p ↦ p | inr q ↦ absurd (nothing f.number q.1) ]) x)
collects_whole a es line (Replicated r b) d same nothing x =
    collects_at (uses_of_construct a es line) (SharesInConstruct a es line) same x

-- ---- turns

abbrev pub uses_in_turns : Around → List Entry → Replicator → Body → Bool → Option ℤ → ℕ → List Use
uses_in_turns a es r b sequential first n = in_turns (λ n. uses_of_one a (in_turn r sequential first n es) b) n

abbrev pub SharesInSome : Around → List Entry → Replicator → Body → Bool → Option ℤ → ℕ → UsageFault → Type 0
SharesInSome a es r b sequential first n =
    InSomeTurn (λ n. SharesInOne a (in_turn r sequential first n es) b) n

pub turns_next : (a : Around) (k : Known) (r : Replicator) (b : Body) (sequential : Bool) (first : Option ℤ) (n : ℕ)
    (m : Meaning) {s t w : Uses} {o p q : Option UsageFault} {l h : Known}
    → m ≡ index_meaning sequential (index_at first n)
    → Collects s t o p k l (uses_in_turns a k.entries r b sequential first n)
    (SharesInSome a k.entries r b sequential first n)
    → Collects t w p q l h (uses_of_one a (add r.name m l.entries) b) (SharesInOne a (add r.name m l.entries) b)
    → Collects s w o q k h (uses_in_turns a k.entries r b sequential first (n + 1))
    (SharesInSome a k.entries r b sequential first (n + 1))
turns_next a k r b sequential first n m {s} {t} {w} {o} {p} {q} {l} {h} means before next =
    let indexed = collects_at (λ m. uses_of_one a (add r.name m l.entries) b)
    (λ m. SharesInOne a (add r.name m l.entries) b) means next in
    collects_at (uses_in_turns a k.entries r b sequential first) (SharesInSome a k.entries r b sequential first)
    (sym (add-one n))
    (collects_both (λ l. uses_of_one a (in_turn r sequential first n l.entries) b)
    (λ l. SharesInOne a (in_turn r sequential first n l.entries) b) before indexed)

pub all_turns : (a : Around) (k : Known) (line : ℕ) (r : Replicator) (b : Body) (sequential : Bool) (turns : Turns)
    (n : ℕ) {s t : Uses} {o m : Option UsageFault} {l : Known} → sequential ≡ is_sequence b
    → turns ≡ turns_of (is_before line a.uncounted) k.entries (is_sequence b) r → n ≡ turns.count
    → Collects s t o m k l (uses_in_turns a k.entries r b sequential turns.first n)
    (SharesInSome a k.entries r b sequential turns.first n)
    → Collects s t o m k l (uses_of_body a k.entries line r b) (SharesInTurns a k.entries line r (is_sequence b) b)
all_turns a k line r (One kind c) sequential turns n one all last x =
    collects_at (λ (y : Bool × Turns × ℕ). uses_in_turns a k.entries r (One kind c) y.0 y.1.first y.2)
    (λ y. SharesInSome a k.entries r (One kind c) y.0 y.1.first y.2)
    (λ i. (one i, all i, (last ∙ ap (λ t. t.count) all) i)) x

-- the body of a block for whose turns it is not checked what they share
pub no_turns_apart : (a : Around) (k : Known) (line : ℕ) (r : Replicator) (b : Body) {s t : Uses}
    {o m : Option UsageFault} {l : Known} → ((n : ℕ) → BreaksRepeated a k.entries line r b n → ⊥)
    → Collects s t o m k l (uses_of_body a k.entries line r b) (SharesInTurns a k.entries line r (is_sequence b) b)
    → Collects s t o m k l (uses_of_body a k.entries line r b) (SharesInBody a k.entries line r b)
no_turns_apart a k line r (One kind c) nothing x =
    collects_for (λ f h. inl h) (λ f h. elim h [ inl p ↦ p | inr q ↦ absurd (nothing f.number q.1) ]) x

-- ---- the scope that is left

-- what was entered since the scope was so long is left
pub left_as_before : {s : Uses} {wanted : List Entry} (old entered before after : Known) (count : ℕ)
    → AreNested old.entries old.blocks → count ≡ length old.entries → Enters s old.entries entered.entries wanted
    → entered.blocks ≡ old.blocks → before ≡ entered
    → after.entries ≡ leave count before.blocks before.entries → after.blocks ≡ before.blocks → after ≡ old
left_as_before old entered before after count nested is enters blocks same left kept =
    left_again old entered before after count nested is
    (record { inner = enters.inner; entries = enters.kept; blocks = blocks }) same left kept
