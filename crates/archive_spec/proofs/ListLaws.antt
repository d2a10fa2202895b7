-- Lists of the archive's calls.
-- Assumes nothing.
use mathlib.Core.Path.{◌≡◌, refl, sym, ap, subst, ◌∙◌}
use mathlib.Core.Bool.{Bool}
use mathlib.Core.Logic.{◌≢◌, ◌↔◌}
use mathlib.Core.List.{List, [], ◌∷◌, ◌++◌, append-nil, append_assoc}
use Prim.Native.Nat.{ℕ, ◌%◌}
use lib.Dec.{eqb}
use borrow.Author.Tests.{eq-eqb, ne_eqb}
use Rattle.lists.specs.Tests.{pick}
use Rattle.beside_spec.specs.Running.{Running}
use Rattle.beside_spec.specs.HandedLaws.{Arrays}
use Rattle.beside_spec.specs.Acting.{Call, write, lose, repair, read, edit, start, step, careful, move}
use Rattle.ledger_spec.specs.Ledger.{Event, call, power_fails, Book, Step, book_next}
use Rattle.ledger_spec.specs.Premises.{Asked}
use Rattle.ledger_spec.proofs.Premises.{asked_is, fair-is, premises}
use Rattle.record_words.specs.Words.{record_from}
use Rattle.repair_words.proofs.RepairWords.{repair-words}
use Rattle.archive_spec.specs.Lent.{Lent, zbk}
use Rattle.archive_spec.specs.Demand3.{Held, held_next, lent_at, lents, last_held, GivenWords, AllowedLents, held_state}
use Rattle.archive_spec.specs.ListLaws.{LentLaws}
use Rattle.archive_spec.proofs.Demand3.{final-is}

lents-parts : (h : Held) (ts us : List Step) → lents h (ts ++ us) ≡ lents h ts ++ lents (last_held h ts) us
lents-parts h [] us = refl
lents-parts h (t ∷ ts) us =
    ap (λ (l : List Lent). lent_at h t.area t.event ++ l) (lents-parts (held_next h t.area t.event) ts us)
    ∙ sym (append_assoc (lent_at h t.area t.event) (lents (held_next h t.area t.event) ts) (lents (last_held (held_next h t.area t.event) ts) us))

held-parts : (h : Held) (ts us : List Step) → last_held h (ts ++ us) ≡ last_held (last_held h ts) us
held-parts h [] us = refl
held-parts h (t ∷ ts) us = held-parts (held_next h t.area t.event) ts us

-- ---- the packet area

steps-leave : (h : Held) (area : List ℕ) (allowance : ℕ) (packets : List ℕ) → let o = zbk h.words h.repair area (step allowance packets) in
    o.answer % 256 ≡ 0 → (held_next h area (call (step allowance packets))).packets ≡ o.packets
steps-leave h area allowance packets e =
    let o = zbk h.words h.repair area (step allowance packets) in
    ap (λ (t : Bool). pick t o.packets h.packets) (eq-eqb (o.answer % 256) 0 e)

refused-leave : (h : Held) (area : List ℕ) (c : Call) → (zbk h.words h.repair area c).answer % 256 ≢ 0 → (held_next h area (call c)).packets ≡ h.packets
refused-leave h area (write file) e = refl
refused-leave h area (lose board) e = refl
refused-leave h area (repair fresh helpers stand_ins) e = refl
refused-leave h area (read boards output) e = refl
refused-leave h area (edit offset bytes boards) e = refl
refused-leave h area (start fresh helpers stand_ins) e = refl
refused-leave h area (step allowance packets) e =
    let o = zbk h.words h.repair area (step allowance packets) in
    ap (λ (t : Bool). pick t o.packets h.packets) (ne_eqb (o.answer % 256) 0 e)
refused-leave h area (careful boards output) e = refl
refused-leave h area (move board point helpers partners) e = refl

others-leave : (h : Held) (area : List ℕ) (c : Call) → ((allowance : ℕ) (packets : List ℕ) → c ≢ step allowance packets) → (held_next h area (call c)).packets ≡ h.packets
others-leave h area (write file) e = refl
others-leave h area (lose board) e = refl
others-leave h area (repair fresh helpers stand_ins) e = refl
others-leave h area (read boards output) e = refl
others-leave h area (edit offset bytes boards) e = refl
others-leave h area (start fresh helpers stand_ins) e = refl
others-leave h area (step allowance packets) e = absurd (e allowance packets refl)
others-leave h area (careful boards output) e = refl
others-leave h area (move board point helpers partners) e = refl

-- ---- one event more

given-there : (e : Event) → GivenWords e → (p : Running) → e ≡ power_fails p → Arrays p
given-there e g p q = subst GivenWords q g

given_back : (e : Event) → ((p : Running) → e ≡ power_fails p → Arrays p) → GivenWords e
given_back (call c) h = tt
given_back (power_fails p) h = h p refl

more-allowed : (h : Held) (b : Book) (t : Step) (ts : List Step)
    → AllowedLents h b (t ∷ ts)
    ↔ (Asked (held_state h) b t × ((p : Running) → t.event ≡ power_fails p → Arrays p) × AllowedLents (held_next h t.area t.event) (book_next b t.event) ts)
more-allowed h b t ts = (
  (λ a. (asked_is (held_state h) b t a.0 a.1, given-there t.event a.2, a.3)),
  (λ a. (
    (premises.altered-is b (record_from h.words) h.area t.area).1 (a.0.as_long, a.0.agrees),
    fair-is (held_state h) b t.area t.event a.0,
    given_back t.event a.1,
    a.2,
  )),
)

pub lent-laws : LentLaws
lent-laws = record {
  gives = λ h area c. refl;
  leaves = λ h area c. (refl, refl, refl);
  steps-leave = steps-leave;
  refused-leave = refused-leave;
  others-leave = others-leave;
  fails = λ h area p. refl;
  fails-any = λ h area ps b old is e. (repair-words.words_back ps is, ap (λ (w : ℕ). eqb w 1) e, repair-words.is-arrays ps is);
  fails-gives = λ h area p. refl;
  lents-none = λ h. refl;
  lents-one = λ h t. append-nil (lent_at h t.area t.event);
  lents-parts = lents-parts;
  held_none = λ h. refl;
  held_one = λ h t. refl;
  held-parts = held-parts;
  ends-are = λ ws ps z xs c area steps. (refl, refl, refl, refl);
  state-is = λ h. refl;
  final-is = final-is;
  told_is = λ o. (refl, refl);
  in-word-is = λ r. (refl, refl);
  none_allowed = λ h b. tt;
  more-allowed = more-allowed;
}
