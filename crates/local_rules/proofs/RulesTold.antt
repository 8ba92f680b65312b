-- What functions return of shifted pointers, and of what is stored and moved, with other terms for their arguments.
use Rattle.std.proofs.Common.{◌≡◌, ℤ, pos, ◌*ℤ◌, ◌+ℤ◌, Result, Err, Bool, true, cond, sym, ap, ◌∙◌, subst}
use Rattle.std.specs.Prelude.{int_le}
use Rattle.module_format.specs.Rows.{Fact}
use Rattle.module_format.specs.declared.fact.Fact.TheVariants.{Pointer}
use Rattle.module_format.specs.declared.fact.Region.{Region}
use Rattle.module_format.specs.declared.fact.Step.{Step}
use Rattle.module_format.specs.Contents.{Contents}
use Rattle.states.specs.declared.rule.Rule.{Rule}
use Rattle.states.specs.declared.rule.Rule.TheVariants as rules
use Rattle.rulings.specs.Pointers.{are_near, reads_bytes, pointer_of, writes_bytes, leaves_words}
use Rattle.rulings.specs.Rulings.{settles, in_bounds, Ruling, Site, uses}
use Rattle.local_rules.specs.MemoryRules.{word_fact, near_fact, shifted, place_fact, words_at, words_behind}
use Rattle.local_rules.specs.MemoryRules.{may_store_word, stored_word, pops_two, writes_through, stores_word}
use Rattle.local_rules.specs.MoveRules.{come, moves_some}
use Rattle.states.specs.declared.span.Leaving.{Leaving}
use Rattle.states.specs.State.{State}
use Rattle.rulings.specs.declared.pointers.Pointed.{Pointed}
use Rattle.rulings.specs.Telling.{Gives, Advances}
use Rattle.rulings.specs.declared.continuation.Continuation.{Continuation}

abbrev Tells : Result Fact Rule → Result Fact Rule → Type 0
Tells r answer = Gives (λ (fact : Fact). fact) r (settles answer)

pub word_told : (r : Result Fact Rule) (lo hi a b : ℤ) → a ≡ lo → b ≡ hi → Tells r (word_fact a b)
    → Tells r (word_fact lo hi)
word_told r lo hi a b a_is b_is told =
    subst (λ (z : ℤ). Tells r (word_fact lo z)) b_is (subst (λ (z : ℤ). Tells r (word_fact z b)) a_is told)

pub near_told : (r : Result Fact Rule) (region : Region) (steps : Step) (lo hi a b : ℤ) → a ≡ lo → b ≡ hi
    → Tells r (near_fact region a b steps) → Tells r (near_fact region lo hi steps)
near_told r region steps lo hi a b a_is b_is told =
    subst (λ (z : ℤ). Tells r (near_fact region lo z steps)) b_is
    (subst (λ (z : ℤ). Tells r (near_fact region z b steps)) a_is told)

-- a pointer `by` bytes further, whose offsets are near
pub pointer_told : (r : Result Fact Rule) (by : ℤ) (region : Region) (steps : Step) (lo hi x y a b : ℤ)
    → true ≡ are_near x y
    → x ≡ lo → y ≡ hi → a ≡ lo +ℤ by → b ≡ hi +ℤ by → Tells r (near_fact region a b steps)
    → Tells r (shifted by (Pointer region lo hi steps))
unfolding shifted
pointer_told r by region steps lo hi x y a b near x_is y_is a_is b_is told =
    subst (λ (b : Bool). Tells r (cond b (near_fact region (lo +ℤ by) (hi +ℤ by) steps) (Err rules.Pointer)))
    (near ∙ (ap (λ (z : ℤ). are_near z y) x_is ∙ ap (are_near lo) y_is))
    (near_told r region steps (lo +ℤ by) (hi +ℤ by) a b a_is b_is told)

pub shifted_told : (r : Result Fact Rule) (fact : Fact) (by d : ℤ) → d ≡ by → Tells r (shifted d fact)
    → Tells r (shifted by fact)
shifted_told r fact by d d_is told = subst (λ (z : ℤ). Tells r (shifted z fact)) d_is told

pub place_told : (m : Contents) (r : Result Fact Rule) (place z : ℤ) → z ≡ place → Tells r (place_fact m z)
    → Tells r (place_fact m place)
place_told m r place z z_is told = subst (λ (z : ℤ). Tells r (place_fact m z)) z_is told

abbrev PointsTo : Result Pointed Rule → Result Pointed Rule → Type 0
PointsTo r answer = Gives (λ (pointer : Pointed). pointer) r (settles answer)

pub words_told : (r : Result Pointed Rule) (region : Region) (lo hi a b : ℤ) → a ≡ lo → b ≡ hi
    → PointsTo r (words_at region a b) → PointsTo r (words_at region lo hi)
words_told r region lo hi a b a_is b_is told =
    subst (λ (z : ℤ). PointsTo r (words_at region lo z)) b_is
    (subst (λ (z : ℤ). PointsTo r (words_at region z b)) a_is told)

pub written_told : (r : Result Continuation Rule) (after : State) (site : Site) (p : Pointed) (size end : ℤ)
    (leaving : Leaving) (s left : State) → end ≡ p.hi +ℤ size
    → ((k : Ruling) → writes_bytes site s p.region p.lo end k ≡ k) → left ≡ leaves_words p end leaving s
    → Advances r after (pops_two site left) → Advances r after (writes_through site p size leaving s)
written_told r after site p size end leaving s left end_is passes left_is told =
    subst (λ (z : ℤ).
    Advances r after (writes_bytes site s p.region p.lo z (pops_two site (leaves_words p z leaving s)))) end_is
    (subst (λ (t : Ruling). Advances r after t) (sym (passes (pops_two site (leaves_words p end leaving s))))
    (subst (λ (t : State). Advances r after (pops_two site t)) left_is told))

-- B is stored, where each test passes
pub stores_told : (r : Result Continuation Rule) (after : State) (site : Site) (e d : ℤ) (s : State) (a b : Fact)
    (q p : Pointed)
    (leaving : Leaving) (holds : Bool) (size : ℤ) → ((k : Fact → Ruling) → uses s.stack.a k ≡ k a)
    → ((k : Fact → Ruling) → uses s.stack.b k ≡ k b) → holds ≡ may_store_word site.contents s.context a b
    → ((k : Ruling) → in_bounds holds k ≡ k) → ((k : Pointed → Ruling) → settles (pointer_of a) k ≡ k q)
    → ((k : Pointed → Ruling) → settles (words_behind (pos 4 *ℤ d) q) k ≡ k p) → leaving ≡ stored_word p b
    → Advances r after (writes_through site p size leaving s) → d ≡ e → size ≡ pos 4
    → Advances r after (stores_word site e s)
stores_told r after site e d s a b q p leaving holds size first second holds_is passes leads further leaving_is told
    d_is size_is =
    subst (λ (t : Ruling). Advances r after t) (sym is)
    (subst (λ (z : ℤ). Advances r after (writes_through site p z (stored_word p b) s)) size_is
    (subst (λ (l : Leaving). Advances r after (writes_through site p size l s)) leaving_is told))
  where
    behind : (k : Pointed → Ruling) → settles (words_behind (pos 4 *ℤ e) q) k ≡ k p
    behind k = subst (λ (z : ℤ). settles (words_behind (pos 4 *ℤ z) q) k ≡ k p) d_is (further k)

    there : (k : Ruling) → in_bounds (may_store_word site.contents s.context a b) k ≡ k
    there k = subst (λ (t : Bool). in_bounds t k ≡ k) holds_is (passes k)

    is : stores_word site e s ≡ writes_through site p (pos 4) (stored_word p b) s
    is = first _ ∙ (second _ ∙ (there _ ∙ (leads _ ∙ behind _)))

-- two numbers are in order, with other terms for them
pub order_told : (a b first second : ℤ) → a ≡ first → b ≡ second → int_le a b ≡ int_le first second
order_told a b first second a_is b_is = ap (λ (z : ℤ). int_le z b) a_is ∙ ap (int_le first) b_is

-- bytes that may be read are moved as the test of those that are written says
pub moves-by : (site : Site) (count d end : ℤ) (from to : Pointed) (s : State) (ruling : Ruling)
    → d ≡ count → ((k : Ruling) → reads_bytes site s from.region from.lo (from.hi +ℤ d) k ≡ k) → end ≡ to.hi +ℤ count
    → writes_bytes site s to.region to.lo end (come site count from to s) ≡ ruling
    → moves_some site count from to s ≡ ruling
unfolding moves_some
moves-by site count d end from to s ruling d_is reads end_is writes =
    subst (λ (z : ℤ). reads_bytes site s from.region from.lo (from.hi +ℤ z)
    (writes_bytes site s to.region to.lo (to.hi +ℤ count) (come site count from to s)) ≡ ruling) d_is
    (reads _
    ∙ subst (λ (z : ℤ). writes_bytes site s to.region to.lo z (come site count from to s) ≡ ruling) end_is writes)

-- bytes are moved, where each test passes
pub moves_told : (r : Result Continuation Rule) (after : State) (site : Site) (count d end : ℤ)
    (from to : Pointed) (s : State)
    → d ≡ count → ((k : Ruling) → reads_bytes site s from.region from.lo (from.hi +ℤ d) k ≡ k) → end ≡ to.hi +ℤ count
    → ((k : Ruling) → writes_bytes site s to.region to.lo end k ≡ k)
    → Advances r after (come site count from to s) → Advances r after (moves_some site count from to s)
moves_told r after site count d end from to s d_is reads end_is writes told =
    subst (λ (t : Ruling). Advances r after t)
    (sym (moves-by site count d end from to s _ d_is reads end_is (writes _))) told
