-- Lists of calls and power failures one after another.
-- Assumes nothing.
use mathlib.Core.Path.{◌≡◌, refl, sym, ◌∙◌, ap}
use mathlib.Core.Bool.{Bool}
use mathlib.Core.Logic.{◌≢◌}
use mathlib.Core.List.{List, [], ◌∷◌, ◌++◌, append_assoc, append-nil}
use Prim.Native.Nat.{ℕ}
use borrow.Author.Tests.{eq-eqb, ne_eqb}
use Rattle.lists.specs.Tests.{pick}
use Rattle.lists.proofs.Pieces.{map-append}
use Rattle.beside_spec.specs.Acting.{Call, write, lose, repair, read, edit, start, step, careful, move, State, act}
use Rattle.ledger_spec.specs.Ledger.{Event, call, Reply, Book, Step, lent, next, told, book_next, book_told}
use Rattle.ledger_spec.specs.Ledger.{replies, final, book_replies, book_final}
use Rattle.ledger_spec.specs.ListLaws.{ListLaws}

final-parts : (w : State) (ts us : List Step) → final w (ts ++ us) ≡ final (final w ts) us
final-parts w [] us = refl
final-parts w (t ∷ ts) us = final-parts (next (lent w t) t.event) ts us

replies-parts : (w : State) (ts us : List Step) → replies w (ts ++ us) ≡ replies w ts ++ replies (final w ts) us
replies-parts w [] us = refl
replies-parts w (t ∷ ts) us =
    ap (λ (l : List Reply). told (lent w t) t.event ++ l) (replies-parts (next (lent w t) t.event) ts us)
    ∙ sym (append_assoc (told (lent w t) t.event) (replies (next (lent w t) t.event) ts) (replies (final (next (lent w t) t.event) ts) us))

book-final-parts : (b : Book) (es fs : List Event) → book_final b (es ++ fs) ≡ book_final (book_final b es) fs
book-final-parts b [] fs = refl
book-final-parts b (e ∷ es) fs = book-final-parts (book_next b e) es fs

book-replies-parts : (b : Book) (es fs : List Event) → book_replies b (es ++ fs) ≡ book_replies b es ++ book_replies (book_final b es) fs
book-replies-parts b [] fs = refl
book-replies-parts b (e ∷ es) fs =
    ap (λ (l : List Reply). book_told b e ++ l) (book-replies-parts (book_next b e) es fs)
    ∙ sym (append_assoc (book_told b e) (book_replies (book_next b e) es) (book_replies (book_final (book_next b e) es) fs))

-- ---- the packet area

steps-leave : (w : State) (allowance : ℕ) (packets : List ℕ) → (act w (step allowance packets)).answer.refusal ≡ 0
    → (next w (call (step allowance packets))).packets ≡ (act w (step allowance packets)).packets
steps-leave w allowance packets e =
    ap (λ (t : Bool). pick t (act w (step allowance packets)).packets w.packets) (eq-eqb (act w (step allowance packets)).answer.refusal 0 e)

refused-leave : (w : State) (c : Call) → (act w c).answer.refusal ≢ 0 → (next w (call c)).packets ≡ w.packets
refused-leave w (write file) e = refl
refused-leave w (lose board) e = refl
refused-leave w (repair fresh helpers stand_ins) e = refl
refused-leave w (read boards output) e = refl
refused-leave w (edit offset bytes boards) e = refl
refused-leave w (start fresh helpers stand_ins) e = refl
refused-leave w (step allowance packets) e =
    ap (λ (t : Bool). pick t (act w (step allowance packets)).packets w.packets) (ne_eqb (act w (step allowance packets)).answer.refusal 0 e)
refused-leave w (careful boards output) e = refl
refused-leave w (move board point helpers partners) e = refl

others-leave : (w : State) (c : Call) → ((allowance : ℕ) (packets : List ℕ) → c ≢ step allowance packets) → (next w (call c)).packets ≡ w.packets
others-leave w (write file) e = refl
others-leave w (lose board) e = refl
others-leave w (repair fresh helpers stand_ins) e = refl
others-leave w (read boards output) e = refl
others-leave w (edit offset bytes boards) e = refl
others-leave w (start fresh helpers stand_ins) e = refl
others-leave w (step allowance packets) e = absurd (e allowance packets refl)
others-leave w (careful boards output) e = refl
others-leave w (move board point helpers partners) e = refl

pub list-laws : ListLaws
unfolding act
list-laws = record {
  writes = λ w file. refl;
  loses = λ w board. refl;
  repairs = λ w fresh helpers stand_ins. refl;
  reads = λ w boards output. refl;
  edits = λ w offset bytes boards. refl;
  starts = λ w fresh helpers stand_ins. refl;
  steps = λ w allowance packets. refl;
  careful-reads = λ w boards output. refl;
  moves = λ w board point helpers partners. refl;
  lents = λ w t. refl;
  lefts = λ w c. (refl, refl, refl);
  replies-are = λ o. (refl, refl);
  tells = λ w c. refl;
  steps-leave = steps-leave;
  refused-leave = refused-leave;
  others-leave = others-leave;
  fails = λ w p. refl;
  fails-told = λ w p. refl;
  book-lefts = λ b c. refl;
  book-tells = λ b c. refl;
  book-fails = λ b p. refl;
  book-fails-told = λ b p. refl;
  final-none = λ w. refl;
  final-one = λ w t. refl;
  final-parts = final-parts;
  replies-none = λ w. refl;
  replies-one = λ w t. append-nil (told (lent w t) t.event);
  replies-parts = replies-parts;
  book-final-none = λ b. refl;
  book-final-one = λ b e. refl;
  book-final-parts = book-final-parts;
  book-replies-none = λ b. refl;
  book-replies-one = λ b e. append-nil (book_told b e);
  book-replies-parts = book-replies-parts;
  events-none = refl;
  events-one = λ t. refl;
  events-parts = λ ts us. map-append (λ (t : Step). t.event) ts us;
}
