-- The block of a loop, one test after another.
use Rattle.std.proofs.Common.{◌≡◌, ℕ, ℤ, pos, ◌+ℤ◌, FitsSigned, Bool, true, false, Option, Some, None, is_some, refl}
use Rattle.std.proofs.Common.{sym, ap, ◌∙◌, subst}
use Rattle.std.specs.Prelude.{IfSome}
use Rattle.std.specs.Int.{w32}
use Rattle.std.proofs.lemmas.Bool.{and_parts}
use Rattle.module_format.specs.Contents.{Contents}
use Rattle.module_format.specs.Contexts.{context_at}
use Rattle.certificate.specs.Rights.{may_write_word, has_word}
use Rattle.states.specs.declared.known.WordFact.{WordFact}
use Rattle.states.specs.State.{State}
use Rattle.local_rules.specs.declared.loops.Block.{Block}
use Rattle.rulings.specs.Rulings.{Site}
use Rattle.local_rules.specs.LoopRules.{is_beside_workspace, provided, block_at, loop_block, OwnsBlock}
use Rattle.local_rules.proofs.Turning.{loop_tells}

none-provided : {A : Type 0} (b : Bool) → provided {A = A} b None ≡ None
unfolding provided
none-provided true = refl
none-provided false = refl

pub block-by : (site : Site) (s : State) (k y z : ℤ) (first second : Option ℤ) (beside : Bool) → y ≡ k
    → z ≡ k +ℤ pos 1
    → is_some first ≡ may_write_word site.contents s.context y
    → is_some second ≡ may_write_word site.contents s.context z → beside ≡ is_beside_workspace s.depth k
    → block_at site s k ≡ provided (is_some first) (provided (is_some second) (provided beside
    (loop_block k (s.frame k) (s.frame (k +ℤ pos 1)))))
unfolding block_at
block-by site s k y z first second beside y_is z_is one two three =
    let rest = loop_block k (s.frame k) (s.frame (k +ℤ pos 1)) in
    let m = may_write_word site.contents s.context in
    ap (λ (b : Bool). provided b (provided (m (k +ℤ pos 1)) (provided (is_beside_workspace s.depth k) rest)))
    (ap m (sym y_is) ∙ sym one)
    ∙ (ap (λ (b : Bool). provided (is_some first) (provided b (provided (is_beside_workspace s.depth k) rest)))
    (ap m (sym z_is) ∙ sym two)
    ∙ ap (λ (b : Bool). provided (is_some first) (provided (is_some second) (provided b rest))) (sym three))

pub beside-is : (depth d word w : ℤ) (beside : Bool) → d ≡ depth → w ≡ word → beside ≡ is_beside_workspace d w
    → beside ≡ is_beside_workspace depth word
beside-is depth d word w beside d_is w_is is =
    is ∙ (ap (λ (e : ℤ). is_beside_workspace e w) d_is ∙ ap (is_beside_workspace depth) w_is)

pub no-second : {A : Type 0} (first : Bool) (second : Bool) (rest : Option A) → second ≡ false
    → provided first (provided second rest) ≡ None
unfolding provided
no-second first second rest e = ap (λ (b : Bool). provided first (provided b rest)) e ∙ none-provided first

pub not-beside : {A : Type 0} (first second beside : Bool) (rest : Option A) → beside ≡ false
    → provided first (provided second (provided beside rest)) ≡ None
unfolding provided
not-beside first second beside rest e =
    ap (λ (b : Bool). provided first (provided second (provided b rest))) e
    ∙ (ap (provided first) (none-provided second) ∙ none-provided first)

pub all-pass : {A : Type 0} (first second beside : Bool) (rest : Option A) → first ≡ true → second ≡ true
    → beside ≡ true → provided first (provided second (provided beside rest)) ≡ rest
unfolding provided
all-pass first second beside rest e f g =
    ap (λ (b : Bool). provided b (provided second (provided beside rest))) e
    ∙ (ap (λ (b : Bool). provided b (provided beside rest)) f ∙ ap (λ (b : Bool). provided b rest) g)

-- a word that may be written is one of the context
has-written : (m : Contents) (context : ℕ) (k : ℤ) → may_write_word m context k ≡ true
    → has_word (context_at m context) k ≡ true
has-written m context k e = (and_parts _ _ e).0

-- the words of a block are words of a context that may write them
pub owns-by : (m : Contents) (context : ℕ) (k y z : ℤ) (first second : WordFact) (o : Option Block) → y ≡ k
    → z ≡ k +ℤ pos 1 → may_write_word m context y ≡ true → may_write_word m context z ≡ true
    → FitsSigned w32 (k +ℤ pos 1) → o ≡ loop_block k first second → IfSome o (OwnsBlock m)
owns-by m context k y z first second None y_is z_is one two fits is = tt
owns-by m context k y z first second (Some block) y_is z_is one two fits is =
    let word = (loop_tells k first second block (sym is)).word in
    record {
      context = context;
      first = ap (has_word (context_at m context)) (word ∙ sym y_is) ∙ has-written m context y one;
      second = ap (λ (j : ℤ). has_word (context_at m context) (j +ℤ pos 1)) word
          ∙ (ap (has_word (context_at m context)) (sym z_is) ∙ has-written m context z two);
      fits = subst (λ (j : ℤ). FitsSigned w32 (j +ℤ pos 1)) (sym word) fits;
    }
