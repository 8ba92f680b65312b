-- What is sequential has sequential parts.
use Rattle.std.proofs.Common.{◌≡◌, ℕ, zero, suc, ◌<◌, List, [], ◌∷◌, ◌++◌, length, map, fold, get_or, sym, ap, subst}
use Rattle.std.proofs.Common.{◌∙◌, arith}
use Rattle.std.proofs.lemmas.List.{map-append}
use Rattle.std.proofs.lemmas.List.Sums.{fold-append}
use Rattle.occam_layout.specs.declared.mark.Mark.TheVariants as mark
use Rattle.occam_parser.specs.declared.tree.Choice.{Choice}
use Rattle.occam_parser.specs.Terminals.{Terminal, Mark}
use Rattle.occam_parser.specs.Lines.{Declaration, Constant}
use Rattle.occam_parser.specs.Blocks.{Process, Does, Construct, Part, Components, NoComponent, Further, Component}
use Rattle.occam_parser.specs.BlockReading.{with_declarations}
use Rattle.occam_parser.specs.Blocks.{Procedure, ProgramItem, GlobalConstant, GlobalProcedure}
use Rattle.occam_parser.specs.BlockViews.{all_of, choice_of, all_choices}
use Rattle.program_meaning.specs.Sequential.{IsSequential, IsSequentialConstruct, AreSequential}
use Rattle.program_meaning.specs.Sequential.{IsSequentialComponent, IsSequentialProgram}

-- ---- a process

behind : (ds : List Declaration) (p : Process) → IsSequential (with_declarations ds p) → IsSequential p
behind [] p h = h
behind (d ∷ ds) p h = behind ds p h

pub construct_sequential : (ds : List Declaration) (line : ℕ) (c : Construct) (p : Process)
    → with_declarations ds (Does line c) ≡ p → IsSequential p → IsSequentialConstruct c
construct_sequential ds line c p is h = behind ds (Does line c) (subst IsSequential (sym is) h)

-- ---- components

-- those before others
first_are : {part : Part} (word : Terminal) (found : Components part) (cs : List (Component part))
    → AreSequential word (fold Further found cs) → AreSequential word found
first_are word found [] h = h
first_are word found (c ∷ cs) h = (first_are word (Further found c) cs h).0

-- those after others
rest_are : {part : Part} (word : Terminal) (found other : Components part) (cs : List (Component part))
    → AreSequential word (fold Further found cs) → AreSequential word other
    → AreSequential word (fold Further other cs)
rest_are word found other [] h all = all
rest_are word found other (c ∷ cs) h all =
    rest_are word (Further found c) (Further other c) cs h (all, (first_are word (Further found c) cs h).1)

one_is : {part : Part} {A : Type 0} (word : Terminal) (f : A → Component part) (found : Components part) (xs : List A)
    (i : ℕ) (x : A) → i < length xs → x ≡ get_or xs i x → AreSequential word (fold Further found (map f xs))
    → IsSequentialComponent word (f x)
one_is word f found [] i x h is all = absurd (omega arith)
one_is word f found (y ∷ xs) zero x h is all =
    subst (λ z. IsSequentialComponent word (f z)) (sym is) (first_are word (Further found (f y)) (map f xs) all).1
one_is word f found (y ∷ xs) (suc i) x h is all = one_is word f (Further found (f y)) xs i x (omega arith) is all

pub component_sequential : {part : Part} {A : Type 0} (word : Terminal) (f : A → Component part) (xs : List A) (i : ℕ)
    (x : A) → i < length xs → x ≡ get_or xs i x → AreSequential word (all_of (map f xs))
    → IsSequentialComponent word (f x)
component_sequential word f xs i x h is all = one_is word f NoComponent xs i x h is all

-- ---- the choices of an IF

-- the choices that are tested, and then those of the ending
in_two : (cs tested rest : List Choice) → cs ≡ tested ++ rest
    → all_choices cs ≡ fold Further (all_choices tested) (map choice_of rest)
in_two cs tested rest is =
    ap all_choices is ∙ ap all_of (map-append choice_of tested rest)
    ∙ fold-append Further NoComponent (map choice_of tested) (map choice_of rest)

pub tested_sequential : (cs tested rest : List Choice) → cs ≡ tested ++ rest
    → AreSequential (Mark mark.If) (all_choices cs) → AreSequential (Mark mark.If) (all_choices tested)
tested_sequential cs tested rest is h =
    first_are (Mark mark.If) (all_choices tested) (map choice_of rest)
    (subst (λ xs. AreSequential (Mark mark.If) xs) (in_two cs tested rest is) h)

pub ending_sequential : (cs tested rest : List Choice) → cs ≡ tested ++ rest
    → AreSequential (Mark mark.If) (all_choices cs) → AreSequential (Mark mark.If) (all_choices rest)
ending_sequential cs tested rest is h =
    rest_are (Mark mark.If) (all_choices tested) NoComponent (map choice_of rest)
    (subst (λ xs. AreSequential (Mark mark.If) xs) (in_two cs tested rest is) h) tt

-- ---- the last item of a program

others_are : (item next : ProgramItem) (items : List ProgramItem) → IsSequentialProgram (item ∷ next ∷ items)
    → IsSequentialProgram (next ∷ items)
others_are (GlobalConstant c) next items h = h
others_are (GlobalProcedure p) next items h = h

last_is : (before : List ProgramItem) (last : ProgramItem) → IsSequentialProgram (before ++ last ∷ [])
    → IsSequentialProgram (last ∷ [])
last_is [] last h = h
last_is (item ∷ []) last h = others_are item last [] h
last_is (item ∷ next ∷ before) last h = last_is (next ∷ before) last (others_are item next (before ++ last ∷ []) h)

pub no_constant_last : (items before : List ProgramItem) (c : Constant)
    → items ≡ before ++ GlobalConstant c ∷ [] → IsSequentialProgram items → ⊥
no_constant_last items before c is h = last_is before (GlobalConstant c) (subst IsSequentialProgram is h)

pub main_sequential : (items before : List ProgramItem) (p : Procedure)
    → items ≡ before ++ GlobalProcedure p ∷ [] → IsSequentialProgram items → IsSequential p.body
main_sequential items before p is h = last_is before (GlobalProcedure p) (subst IsSequentialProgram is h)
