-- What was written, after a message.
use Rattle.std.proofs.Common.{◌≡◌, ℕ, Bool, true, false, is_some, List, [], ◌++◌, Option, Some, None}
use Rattle.std.proofs.Common.{refl, sym, ap, subst, ◌∙◌, append-nil}
use Rattle.std.proofs.KnownBytes.{Appends-trans, Appends-nil}
use Rattle.module_format.specs.Contents.{Contents}
use Rattle.machine_state.specs.declared.link.Link.{Link}
use Rattle.machine_state.specs.declared.link.Link.TheVariants.{Zero, One, Two, Three}
use Rattle.link_runs.specs.ByLink.{ByLink, of_link, with_link}
use Rattle.link_runs.specs.FirstInFirstOut.{RunMoment, delivered}
use Rattle.link_runs.specs.RunLaws.{written_if}
use Rattle.link_runs.proofs.ByLink.{of_same, of_other}
use Rattle.link_runner.specs.Readers.{at_link}
use Rattle.link_runner.specs.Writers.{writers_of, Puts, PutsOn}
use Rattle.link_runner.proofs.AtLinks.{of_by_link, everywhere}

module _ {W : Type 0} (written : W → Option (List ℕ)) where
  pub puts_further : (x y z : Option W) (bytes more : List ℕ) → Puts written x y bytes → Puts written y z more
      → Puts written x z (bytes ++ more)
  puts_further None None None bytes more puts then = rw (puts, then) refl
  puts_further None None (Some z) bytes more puts then = absurd then
  puts_further None (Some y) z bytes more puts then = absurd puts
  puts_further (Some x) None z bytes more puts then = absurd puts
  puts_further (Some x) (Some y) None bytes more puts then = absurd then
  puts_further (Some x) (Some y) (Some z) bytes more puts then =
      Appends-trans (written x) (written y) (written z) bytes more puts then

  pub puts_nothing : (x : Option W) → Puts written x x []
  puts_nothing None = refl
  puts_nothing (Some x) = Appends-nil (written x)

  -- what was written on each link, and then these bytes on one
  module _ (first before after : List (Option W)) (link : Link) (all : ByLink (List ℕ)) (bytes : List ℕ)
      (puts : (on : Link) → Puts written (at_link first on) (at_link before on) (of_link all on))
      (more : PutsOn written link bytes before after) where
    pub puts_more : (on : Link) → Puts written (at_link first on) (at_link after on)
        (of_link (with_link link (of_link all link ++ bytes) all) on)
    puts_more = everywhere (λ on. Puts written (at_link first on) (at_link after on)
        (of_link (with_link link (of_link all link ++ bytes) all) on)) link
        (subst (Puts written (at_link first link) (at_link after link))
        (sym (of_same link (of_link all link ++ bytes) all))
        (puts_further (at_link first link) (at_link before link) (at_link after link) (of_link all link) bytes
        (puts link) more.here))
        (λ on differ. subst (Puts written (at_link first on) (at_link after on))
        (sym (of_other link on (of_link all link ++ bytes) all differ))
        (subst (λ (o : Option W). Puts written (at_link first on) o (of_link all on)) (sym (more.elsewhere on differ))
        (puts on)))

with_nothing : (link : Link) (all : ByLink (List ℕ)) → with_link link (of_link all link ++ []) all ≡ all
with_nothing Zero all = ap (λ (bytes : List ℕ). with_link Zero bytes all) (append-nil all.first)
with_nothing One all = ap (λ (bytes : List ℕ). with_link One bytes all) (append-nil all.second)
with_nothing Two all = ap (λ (bytes : List ℕ). with_link Two bytes all) (append-nil all.third)
with_nothing Three all = ap (λ (bytes : List ℕ). with_link Three bytes all) (append-nil all.fourth)

-- what is written once a message was delivered
pub delivered_written : (m : Contents) (flags : ByLink Bool) (link : Link) (message : List ℕ) (s : RunMoment) (b : Bool)
    → of_link flags link ≡ b → (delivered m flags link message s).written
    ≡ with_link link (of_link s.written link ++ written_if b message) s.written
delivered_written m flags link message s true is = rw is refl
delivered_written m flags link message s false is = rw is (sym (with_nothing link s.written))

module _ {W : Type 0} (written : W
    → Option (List ℕ)) (m : Contents) (first before after : List (Option W)) (link : Link)
    (message : List ℕ) (flags : ByLink Bool) (s : RunMoment)
    (puts : (on : Link) → Puts written (at_link first on) (at_link before on) (of_link s.written on))
    (more : PutsOn written link (written_if (of_link flags link) message) before after) where
  pub puts_message : (on : Link) → Puts written (at_link first on) (at_link after on)
      (of_link (delivered m flags link message s).written on)
  puts_message on = subst (λ (all : ByLink (List ℕ)). Puts written (at_link first on) (at_link after on) (of_link all
      on))
      (sym (delivered_written m flags link message s (of_link flags link) refl))
      (puts_more written first before after link s.written (written_if (of_link flags link) message) puts more on)

-- writers come and go nowhere
same_there : {W : Type 0} (written : W → Option (List ℕ)) (x y : Option W) (bytes : List ℕ) → Puts written x y bytes
    → is_some x ≡ is_some y
same_there written None None bytes puts = refl
same_there written None (Some y) bytes puts = absurd puts
same_there written (Some x) None bytes puts = absurd puts
same_there written (Some x) (Some y) bytes puts = refl

alike : (a b : ByLink Bool) → ((link : Link) → of_link a link ≡ of_link b link) → a ≡ b
alike a b same =
    ap (λ (x : Bool). record a { first = x }) (same Zero)
    ∙ (ap (λ (x : Bool). record a { first = b.first; second = x }) (same One)
    ∙ (ap (λ (x : Bool). record a { first = b.first; second = b.second; third = x }) (same Two)
    ∙ ap (λ (x : Bool). record a { first = b.first; second = b.second; third = b.third; fourth = x }) (same Three)))

-- the same links have writers as before
pub writers_stay : {W : Type 0} (written : W → Option (List ℕ)) (before after : List (Option W)) (all : ByLink (List ℕ))
    → ((link : Link) → Puts written (at_link before link) (at_link after link) (of_link all link))
    → writers_of before ≡ writers_of after
writers_stay written before after all puts = alike (writers_of before) (writers_of after)
    (λ link. of_by_link (λ on. is_some (at_link before on)) link
    ∙ (same_there written (at_link before link) (at_link after link) (of_link all link) (puts link)
    ∙ sym (of_by_link (λ on. is_some (at_link after on)) link)))
