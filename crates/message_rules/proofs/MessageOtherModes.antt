-- In an alternation, and among the starts of a PAR, an instruction that takes or gives a message breaks a rule.
use Rattle.std.proofs.Common.{◌≡◌, ℤ, ◌+ℤ◌, Bool, true, false, cond, refl, sym, ◌∙◌}
use Rattle.module_format.specs.Rows.{Fact}
use Rattle.module_format.specs.declared.rows.Direction.{Direction}
use Rattle.module_format.specs.declared.rows.Direction.TheVariants.{In, Out}
use Rattle.states.specs.declared.rule.Rule.TheVariants as rules
use Rattle.states.specs.State.{State, is_same_number}
use Rattle.rulings.specs.declared.pointers.Pointed.{Pointed}
use Rattle.rulings.specs.Rulings.{Ruling, Site}
use Rattle.rulings.specs.Filling.{filled}
use Rattle.rulings.specs.Pointers.{leaves_words, stored_byte}
use Rattle.rulings.proofs.OtherModes.{Breaks, IsBusy, uses_break, wants_break, bounds_break, settles_break}
use Rattle.rulings.proofs.OtherModes.{reads_break, writes_break, names_break, alone_breaks, leaves_mode, filled_mode}
use Rattle.message_rules.specs.MessageRules.{over_channel, is_message, received}
use Rattle.message_rules.specs.MessageRules.{exchanges, takes, receives, receives_some, in_rule, gives, sends}
use Rattle.message_rules.specs.MessageRules.{sends_some, out_rule}

received_mode : (p : Pointed) (end : ℤ) (s : State) → (received p end s).mode ≡ s.mode
unfolding received
received_mode p end s = on (is_same_number p.lo p.hi)
  where
    on : (b : Bool) → (cond b (filled true p end s) (leaves_words p end stored_byte s)).mode ≡ s.mode
    on true = filled_mode true p end s
    on false = leaves_mode p end stored_byte s

module _ (site : Site) (s : State) (busy : IsBusy s.mode) where
  over_breaks : (fact : Fact) (direction : Direction) (count : ℤ) (r : Ruling) → Breaks r
      → Breaks (over_channel site s fact direction count r)
  unfolding over_channel
  over_breaks fact direction count r all =
      names_break fact _ (λ kind. wants_break _ _ _ (wants_break _ _ _ all))

  exchanges_break : (t : State) → t.mode ≡ s.mode → Breaks (exchanges site t)
  exchanges_break t same = alone_breaks t.mode (λ e. busy (sym same ∙ e)) _

  tested : (b : Bool) (one other : Ruling) → Breaks one → Breaks other → Breaks (cond b one other)
  tested true one other p q = p
  tested false one other p q = q

  receives_break : (fact : Fact) (count : ℤ) (p : Pointed) → Breaks (receives site s fact count p)
  unfolding receives takes
  receives_break fact count p =
      writes_break site s _ _ _ _ (wants_break _ _ _ (over_breaks fact In count _
      (exchanges_break (received p (p.hi +ℤ count) s) (received_mode p (p.hi +ℤ count) s))))

  pub in_breaks : Breaks (in_rule site s)
  unfolding in_rule receives_some
  in_breaks =
      uses_break _ _ (λ a. uses_break _ _ (λ b. uses_break _ _ (λ c. settles_break _ _ (λ count.
      tested (is_message count) _ _
      (bounds_break _ _ (settles_break _ _ (λ p. receives_break b count p)))
      (over_breaks b In count _ (rules.MessageLength, refl))))))

  sends_break : (fact : Fact) (count : ℤ) (p : Pointed) → Breaks (sends site s fact count p)
  unfolding sends gives
  sends_break fact count p =
      wants_break _ _ _ (reads_break site s _ _ _ _ (wants_break _ _ _ (over_breaks fact Out count _
      (exchanges_break s refl))))

  pub out_breaks : Breaks (out_rule site s)
  unfolding out_rule sends_some
  out_breaks =
      uses_break _ _ (λ a. uses_break _ _ (λ b. uses_break _ _ (λ c. settles_break _ _ (λ count.
      tested (is_message count) _ _
      (settles_break _ _ (λ p. sends_break b count p))
      (over_breaks b Out count _ (rules.MessageLength, refl))))))
