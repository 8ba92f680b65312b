-- The rules, one test after another.
use Rattle.std.proofs.Common.{◌≡◌, ℕ, ℤ, negsuc, ◌+ℤ◌, Result, Ok, Err, Option, Some, None, sym, ap, ◌∙◌, subst}
use Rattle.std.proofs.Common.{refl, Bool, cond, is_some}
use Rattle.std.specs.Prelude.{ok_or, IfSome, IfOk}
use Rattle.module_format.specs.declared.fact.Fact.TheVariants.{Unknown}
use Rattle.states.specs.declared.rule.Rule.{Rule}
use Rattle.states.specs.declared.rule.Rule.TheVariants as rules
use Rattle.module_format.specs.Contents.{Label, label_at}
use Rattle.certificate.specs.Rights.{may_write_word, may_read_word}
use Rattle.states.specs.State.{State, written}
use Rattle.states.specs.Below.{below, below_at}
use Rattle.rulings.specs.declared.continuation.Continuation.{Continuation}
use Rattle.rulings.specs.Rulings.{forks_to, falls_or_leads, Ruling, Site, leads, breaks, writes_word, reads_word}
use Rattle.rulings.specs.Rulings.{leads_to}
use Rattle.rulings.specs.Telling.{Admits, Advances}

-- the same ruling, in another form
pub advances-by : (r : Result Continuation Rule) (after : State) (p q : Ruling) → p ≡ q → Advances r after q
    → Advances r after p
advances-by r after p q e h = subst (λ x. Advances r after x) (sym e) h

-- ---- labels

-- where a state goes on at a label, if it may fork to it
abbrev pub led : Ruling → Ruling
led (falls_or_leads s to) = leads to
led r = r

pub leads_forked : (site : Site) (to : ℕ) (s : State) → leads_to site to s ≡ led (forks_to site to s s)
unfolding leads_to forks_to
leads_forked site to s = on_label (label_at site.contents to)
  where
    on_cost : (r : Result ℕ Rule) → (elim r as (λ r. Ruling) [ Ok cost ↦ leads to | Err broken ↦ breaks broken ])
        ≡ led (elim r as (λ r. Ruling) [ Ok cost ↦ falls_or_leads s to | Err broken ↦ breaks broken ])
    on_cost (Ok cost) = refl
    on_cost (Err broken) = refl

    on_label : (o : Option Label)
        → (elim o as (λ o. Ruling) [
          | None ↦ breaks rules.Label
          | Some t ↦ elim (below s t) as (λ r. Ruling) [ Ok cost ↦ leads to | Err broken ↦ breaks broken ]
        ])
        ≡ led (elim o as (λ o. Ruling) [
          | None ↦ breaks rules.Label
          | Some t ↦ elim (below s t) as (λ r. Ruling) [ Ok cost ↦ falls_or_leads s to | Err broken ↦ breaks broken ]
        ])
    on_label None = refl
    on_label (Some t) = on_cost (below s t)

-- what going on at the offset costs decides
pub forks-by : (site : Site) (to : ℕ) (s here : State) (r : Result ℕ Rule) → r ≡ below_at site.contents to s
    → forks_to site to s here
    ≡ elim r as (λ r. Ruling) [ Ok cost ↦ falls_or_leads here to | Err broken ↦ breaks broken ]
unfolding forks_to
forks-by site to s here r is =
    on_label (label_at site.contents to)
    ∙ ap (λ (r : Result ℕ Rule). elim r as
    (λ r. Ruling) [ Ok cost ↦ falls_or_leads here to | Err broken ↦ breaks broken ]) (sym is)
  where
    on_label : (o : Option Label)
        → (elim o as (λ o. Ruling) [
          | None ↦ breaks rules.Label
          | Some t ↦ elim (below s t) as
              (λ r. Ruling) [ Ok cost ↦ falls_or_leads here to | Err broken ↦ breaks broken ]
        ])
        ≡ elim (elim o as (λ o. Result ℕ Rule) [ None ↦ Err rules.Label | Some t ↦ below s t ]) as
        (λ r. Ruling) [ Ok cost ↦ falls_or_leads here to | Err broken ↦ breaks broken ]
    on_label None = refl
    on_label (Some t) = refl

-- ---- the words below the workspace

pub scheduled : (s t u v : State) (j k l : ℤ) → t ≡ written j Unknown s → u ≡ written k Unknown t
    → v ≡ written l Unknown u → j ≡ s.depth +ℤ negsuc 0 → k ≡ s.depth +ℤ negsuc 1 → l ≡ s.depth +ℤ negsuc 2
    → v ≡ written (s.depth +ℤ negsuc 2) Unknown
    (written (s.depth +ℤ negsuc 1) Unknown (written (s.depth +ℤ negsuc 0) Unknown s))
scheduled s t u v j k l t_is u_is v_is j_is k_is l_is =
    v_is
    ∙ (ap (λ (z : ℤ). written z Unknown u) l_is
    ∙ ap (written (s.depth +ℤ negsuc 2) Unknown) (u_is
    ∙ (ap (λ (z : ℤ). written z Unknown t) k_is
    ∙ ap (written (s.depth +ℤ negsuc 1) Unknown) (t_is ∙ ap (λ (z : ℤ). written z Unknown s) j_is))))

-- ---- words, where it is known whether they may be written or read

-- a test that is handed a word, or else breaks `OwnWord`
admitted : (may : Bool) (o : Option ℤ) → is_some o ≡ may
    → Admits (ok_or o rules.OwnWord) (λ k. cond may k (breaks rules.OwnWord))
admitted may (Some x) h = λ k. ap (λ b. cond b k (breaks rules.OwnWord)) (sym h)
admitted may None h = λ k. ap (λ b. cond b k (breaks rules.OwnWord)) (sym h)

-- what holds of the word holds where it is passed on
pub passed-on : (P : ℤ → Type 0) (o : Option ℤ) (r : Result ℤ Rule) → r ≡ ok_or o rules.OwnWord → IfSome o P → IfOk r P
passed-on P (Some x) r r_is h = rw r_is h
passed-on P None r r_is h = rw r_is tt

-- a word that is returned as one is returned as another that is the same
pub passed-as : (w z : ℤ) (o : Option ℤ) (r : Result ℤ Rule) → r ≡ ok_or o rules.OwnWord → z ≡ w
    → IfSome o (λ k. k ≡ z) → IfOk r (λ k. k ≡ w)
passed-as w z (Some x) r r_is same h = rw r_is (h ∙ same)
passed-as w z None r r_is same h = rw r_is tt

-- a word that is asked for is handed on where it passes a test
asked-by : (test : ℤ → Bool) (w z : ℤ) (o : Option ℤ) (r : Result ℤ Rule) → r ≡ ok_or o rules.OwnWord → z ≡ w
    → is_some o ≡ test z → Admits r (λ k. cond (test w) k (breaks rules.OwnWord))
asked-by test w z o r r_is z_is h = rw r_is (admitted (test w) o (h ∙ ap test z_is))

pub written-by : (site : Site) (s : State) (w z : ℤ) (o : Option ℤ) (r : Result ℤ Rule) → r ≡ ok_or o rules.OwnWord
    → z ≡ w → is_some o ≡ may_write_word site.contents s.context z → Admits r (writes_word site s w)
unfolding writes_word
written-by site s w z o r r_is = asked-by (may_write_word site.contents s.context) w z o r r_is

pub read-by : (site : Site) (s : State) (w z : ℤ) (o : Option ℤ) (r : Result ℤ Rule) → r ≡ ok_or o rules.OwnWord
    → z ≡ w → is_some o ≡ may_read_word site.contents s.context z → Admits r (reads_word site s w)
unfolding reads_word
read-by site s w z o r r_is = asked-by (may_read_word site.contents s.context) w z o r r_is
