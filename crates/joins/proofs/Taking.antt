-- What is left of a holding, and what a branch is given, as differences of spans.
use Rattle.std.proofs.Common.{◌≡◌, ℕ, ◌<◌, ◌&&◌, ◌||◌, not, Bool, true, false, List, [], ◌∷◌, ◌++◌, refl, sym, ap}
use Rattle.std.proofs.Common.{◌∙◌, map}
use Rattle.std.specs.List.{list_any}
use Rattle.std.proofs.lemmas.Bool.{lt-ltb}
use Rattle.std.proofs.lemmas.List.Folds.{list_any-append}
use Rattle.std.specs.Prelude.{nat_lt, filter}
use Rattle.small_laws.proofs.Mapped.{list_any-map}
use Rattle.machine_state.specs.declared.holding.Span.{Span}
use Rattle.machine_state.specs.declared.holding.End.{End}
use Rattle.machine_state.specs.Holding.{Holding, covers, may_write, may_read}
use Rattle.machine_state.specs.Covering.{covered}
use Rattle.machine_state.specs.declared.spans.Stretch.{Stretch as Kept}
use Rattle.machine_state.specs.Stretches.{stretch_view}
use Rattle.machine_state.specs.Spans.{Stretch, stretches_over, Share, runs, less, writes_place, reads_place}
use Rattle.machine_state.specs.Spans.{is_among_ends}
use Rattle.machine_state.proofs.NormalSpans.{same_runs}
use Rattle.machine_state.proofs.SpanLaws.{runs_cover_the_test}

pub covered_both : (a b : List Span) (p : ℕ) → covered (a ++ b) p ≡ (covered a p || covered b p)
covered_both a b p = list_any-append (λ (s : Span). covers s p) a b

-- what is in some, and neither in these nor in those
pub outside_both : (end : ℕ) (some these those : List Span) →
    runs (λ p. covered some p && not (covered (these ++ those) p)) 0 end
    ≡ runs (λ p. covered some p && not (covered these p) && not (covered those p)) 0 end
outside_both end some these those = same_runs _ _ end (λ p h.
    ap (λ (b : Bool). covered some p && not b) (covered_both these those p)
    ∙ split (covered some p) (covered these p) (covered those p))
  where
    split : (x a b : Bool) → (x && not (a || b)) ≡ (x && not a && not b)
    split true true b = refl
    split true false b = refl
    split false a b = refl

-- what may be read and is not written from now on: what is only read already, or is read from now on
pub left_for_reading : (end : ℕ) (writes reads given taken : List Span) →
    runs (λ p. covered (writes ++ reads) p
    && not (covered (given ++ runs (λ p. covered writes p && not (covered taken p)) 0 end) p)) 0 end
    ≡ runs (λ p. (covered writes p || covered reads p) && not (covered given p)
    && (not (covered writes p) || covered taken p)) 0 end
left_for_reading end writes reads given taken = same_runs _ _ end (λ p h. at p h)
  where
    split : (b x y g t : Bool) → b ≡ true
        → ((x || y) && not (g || (b && (x && not t)))) ≡ ((x || y) && not g && (not x || t))
    split true true y true t e = refl
    split true true y false true e = refl
    split true true y false false e = refl
    split true false true true t e = refl
    split true false true false t e = refl
    split true false false g t e = refl
    split false x y g t e = absurd (cc)

    at : (p : ℕ) → p < end → (covered (writes ++ reads) p
        && not (covered (given ++ runs (λ p. covered writes p && not (covered taken p)) 0 end) p))
        ≡ ((covered writes p || covered reads p) && not (covered given p)
        && (not (covered writes p) || covered taken p))
    at p h =
        let kept = runs (λ p. covered writes p && not (covered taken p)) 0 end in
        ap (λ (b : Bool). b && not (covered (given ++ kept) p)) (covered_both writes reads p)
        ∙ (ap (λ (b : Bool). (covered writes p || covered reads p) && not b) (covered_both given kept p)
        ∙ (ap (λ (b : Bool). (covered writes p || covered reads p) && not (covered given p || b))
        (runs_cover_the_test (λ p. covered writes p && not (covered taken p)) end p)
        ∙ split (nat_lt p end) (covered writes p) (covered reads p) (covered given p) (covered taken p)
        (lt-ltb p end h)))

-- spans that cover, of a memory of `end` places, what a share has
pub record Covers (end : ℕ) (spans : List Span) (test : ℕ → Bool) : Type 0 where
  pub on : (p : ℕ) → p < end → covered spans p ≡ test p

pub same_holding : (g h : Holding) → g.writes ≡ h.writes → g.reads ≡ h.reads → g.ends ≡ h.ends → g ≡ h
same_holding g h p q r =
    ap (λ (x : List Span). let k : Holding = record g { writes = x } in k) p
    ∙ (ap (λ (x : List Span). let k : Holding = record { writes = h.writes; reads = x; ends = g.ends } in k) q
    ∙ ap (λ (x : List End). let k : Holding = record h { ends = x } in k) r)

pub less_is : (end : ℕ) (h left : Holding) (share : Share) (writes reads : List Span)
    → Covers end writes (writes_place share) → Covers end reads (reads_place share)
    → left.writes ≡ runs (λ p. may_write h p && not (covered writes p) && not (covered reads p)) 0 end
    → left.reads ≡ runs (λ p. may_read h p && not (covered writes p)
    && (not (may_write h p) || covered reads p)) 0 end
    → left.ends ≡ filter (λ (e : End). not (is_among_ends share.ends e)) h.ends
    → left ≡ less end h share
unfolding less
less_is end h left share writes reads w r one two three = same_holding left _
    (one ∙ same_runs _ _ end (λ p k.
    ap (λ (b : Bool). may_write h p && not b && not (covered reads p)) (w.on p k)
    ∙ ap (λ (b : Bool). may_write h p && not (writes_place share p) && not b) (r.on p k)))
    (two ∙ same_runs _ _ end (λ p k.
    ap (λ (b : Bool). may_read h p && not b && (not (may_write h p) || covered reads p)) (w.on p k)
    ∙ ap (λ (b : Bool). may_read h p && not (writes_place share p) && (not (may_write h p) || b)) (r.on p k)))
    three

-- ---- the same of lists that are seen to be these

pub taken_is : (end : ℕ) (some these those seen taken : List Span) → seen ≡ some → taken ≡ these ++ those
    → runs (λ p. covered seen p && not (covered taken p)) 0 end
    ≡ runs (λ p. covered some p && not (covered these p) && not (covered those p)) 0 end
taken_is end some these those seen taken e k =
    ap (λ (l : List Span). runs (λ p. covered l p && not (covered taken p)) 0 end) e
    ∙ (ap (λ (l : List Span). runs (λ p. covered some p && not (covered l p)) 0 end) k
    ∙ outside_both end some these those)

pub read_is : (end : ℕ) (writes reads given taken held kept out : List Span) → held ≡ writes ++ reads
    → kept ≡ runs (λ p. covered writes p && not (covered taken p)) 0 end → out ≡ given ++ kept
    → runs (λ p. covered held p && not (covered out p)) 0 end
    ≡ runs (λ p. (covered writes p || covered reads p) && not (covered given p)
    && (not (covered writes p) || covered taken p)) 0 end
read_is end writes reads given taken held kept out e k o =
    ap (λ (l : List Span). runs (λ p. covered l p && not (covered out p)) 0 end) e
    ∙ (ap (λ (l : List Span). runs (λ p. covered (writes ++ reads) p && not (covered l p)) 0 end)
    (o ∙ ap (λ (l : List Span). given ++ l) k)
    ∙ left_for_reading end writes reads given taken)

pub covers_mapped : (end : ℕ) (spans : List Span) (seen stretches : List Kept) → seen ≡ stretches
    → ((p : ℕ) → p < end → covered spans p ≡ list_any (λ (s : Kept). stretches_over (stretch_view s) p) seen)
    → Covers end spans (λ p. list_any (λ s. stretches_over s p) (map stretch_view stretches))
covers_mapped end spans seen stretches e covering = record {
  on = λ p h. covering p h
      ∙ (ap (λ (l : List Kept). list_any (λ (s : Kept). stretches_over (stretch_view s) p) l) e
      ∙ sym (list_any-map (λ s. stretches_over s p) stretch_view stretches));
}

module _ (end : ℕ) (h left : Holding) (share : Share) (writes reads w1 r1 w2 r2 : List Span)
    (ends taken : List End) where
  pub less_by : Covers end writes (writes_place share) → Covers end reads (reads_place share)
      → w1 ≡ writes → r1 ≡ reads → w2 ≡ writes → r2 ≡ reads → ends ≡ h.ends → taken ≡ share.ends
      → left.writes ≡ runs (λ p. may_write h p && not (covered w1 p) && not (covered r1 p)) 0 end
      → left.reads ≡ runs (λ p. may_read h p && not (covered w2 p) && (not (may_write h p) || covered r2 p)) 0 end
      → left.ends ≡ filter (λ (e : End). not (is_among_ends taken e)) ends → left ≡ less end h share
  less_by w r a b c d e f one two three = less_is end h left share writes reads w r
      (one ∙ (ap (λ (l : List Span). runs (λ p. may_write h p && not (covered l p) && not (covered r1 p)) 0 end) a
      ∙ ap (λ (l : List Span). runs (λ p. may_write h p && not (covered writes p) && not (covered l p)) 0 end) b))
      (two ∙ (ap (λ (l : List Span). runs (λ p. may_read h p && not (covered l p)
      && (not (may_write h p) || covered r2 p)) 0 end) c
      ∙ ap (λ (l : List Span). runs (λ p. may_read h p && not (covered writes p)
      && (not (may_write h p) || covered l p)) 0 end) d))
      (three ∙ (ap (λ (l : List End). filter (λ (x : End). not (is_among_ends taken x)) l) e
      ∙ ap (λ (l : List End). filter (λ (x : End). not (is_among_ends l x)) h.ends) f))

-- nothing is missing of stretches, where it is counted on the spans that they are in memory
pub missing_is : (end : ℕ) (held places seen other : List Span) (stretches : List Stretch)
    → Covers end places (λ p. list_any (λ s. stretches_over s p) stretches) → seen ≡ places → other ≡ held
    → runs (λ p. covered seen p && not (covered other p)) 0 end
    ≡ runs (λ p. list_any (λ s. stretches_over s p) stretches && not (covered held p)) 0 end
missing_is end held places seen other stretches covering e k =
    ap (λ (l : List Span). runs (λ p. covered l p && not (covered other p)) 0 end) e
    ∙ (ap (λ (l : List Span). runs (λ p. covered places p && not (covered l p)) 0 end) k
    ∙ same_runs _ _ end (λ p h. ap (λ (b : Bool). b && not (covered held p)) (covering.on p h)))

-- ---- what a branch holds

pub given_writes : (end : ℕ) (writes seen : List Span) (test : ℕ → Bool) → Covers end writes test → seen ≡ writes
    → runs (λ p. covered seen p && not (covered [] p)) 0 end ≡ runs test 0 end
given_writes end writes seen test covering e =
    ap (λ (l : List Span). runs (λ p. covered l p && not (covered [] p)) 0 end) e
    ∙ same_runs _ _ end (λ p h. all (covered writes p) ∙ covering.on p h)
  where
    all : (b : Bool) → (b && true) ≡ b
    all true = refl
    all false = refl

pub given_reads : (end : ℕ) (writes reads seen others : List Span) (span : Span) (written read constant : ℕ → Bool)
    → Covers end writes written → Covers end reads read → ((p : ℕ) → p < end → covers span p ≡ constant p)
    → seen ≡ reads ++ span ∷ [] → others ≡ writes
    → runs (λ p. covered seen p && not (covered others p)) 0 end
    ≡ runs (λ p. not (written p) && (read p || constant p)) 0 end
given_reads end writes reads seen others span written read constant w r k e f =
    ap (λ (l : List Span). runs (λ p. covered l p && not (covered others p)) 0 end) e
    ∙ (ap (λ (l : List Span). runs (λ p. covered (reads ++ span ∷ []) p && not (covered l p)) 0 end) f
    ∙ same_runs _ _ end at)
  where
    swap : (x y z : Bool) → ((x || (y || false)) && not z) ≡ (not z && (x || y))
    swap true true true = refl
    swap true true false = refl
    swap true false true = refl
    swap true false false = refl
    swap false true true = refl
    swap false true false = refl
    swap false false true = refl
    swap false false false = refl

    at : (p : ℕ) → p < end → (covered (reads ++ span ∷ []) p && not (covered writes p))
        ≡ (not (written p) && (read p || constant p))
    at p h =
        ap (λ (b : Bool). b && not (covered writes p)) (covered_both reads (span ∷ []) p)
        ∙ (swap (covered reads p) (covers span p) (covered writes p)
        ∙ (ap (λ (b : Bool). not b && (covered reads p || covers span p)) (w.on p h)
        ∙ (ap (λ (b : Bool). not (written p) && (b || covers span p)) (r.on p h)
        ∙ ap (λ (b : Bool). not (written p) && (read p || b)) (k p h))))
