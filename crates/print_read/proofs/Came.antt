-- What comes of a program's reads, one after another.
-- Assumes nothing.
use mathlib.Core.Path.{◌≡◌, refl, ap, ◌∙◌}
use mathlib.Core.Bool.{Bool, true, false}
use mathlib.Core.List.{List, [], ◌++◌}
use Prim.Native.Nat.{ℕ, ◌≤◌}
use native.Mathlib.Omega.{arith}
use lib.ListN.{length}
use Rattle.lists.specs.Tests.{pick}
use Rattle.printer.specs.Printer.{refused_line}
use Rattle.printer.specs.Steps.{begin}
use Rattle.print_feed.specs.Steps.{Feed, feed_all, printed_by}
use Rattle.print_feed.proofs.Laws.{behind, feed-laws}
use Rattle.print_share.specs.Steps.{Written, placed, to_write}
use Rattle.print_share.specs.Laws.{shown}
use Rattle.print_share.proofs.Laws.{share_laws}
use Rattle.print_read.specs.Steps.{unless, Reading, Printing, Lent}

-- ---- reads, one after another

pub none : {s t : Feed} → t ≡ s → Reading s true t
none e = record { input = []; cut = false; fed-all = e; not-cut = λ q. refl }

-- where the input goes on, all that was given is fed
so_far : {s t : Feed} {more : Bool} (a : Reading s more t) → more ≡ true → t ≡ feed_all s a.input
so_far {s} a q = a.fed-all ∙ ap (λ (c : Bool). unless c (feed_all s a.input)) (a.not-cut q)

pub next : {s t u : Feed} {more goes : Bool} → Reading s more t → more ≡ true → Reading t goes u → Reading s goes u
next {s} {t} {u} a q b = record {
  input = a.input ++ b.input;
  cut = b.cut;
  fed-all = b.fed-all ∙ ap (unless b.cut) (ap (λ (t : Feed). feed_all t b.input) (so_far a q) ∙ behind a.input b.input s);
  not-cut = b.not-cut;
}

-- ---- what is written

module _ (asked : Bool) (file out : List ℕ) (l : Lent file out) where
  start : Feed
  start = record { parser = begin asked; file = file }

  pub printing : {t : Feed} (w : Written) → Reading (record { parser = begin asked; file = file }) false t → w ≡ placed (to_write t.parser t.file) out
      → (w.count ≤ length w.out) × Printing asked (shown w)
  unfolding start
  printing {t} w a e = (
    omega (arith, ap (λ (w : Written). w.count) e, ap (λ (w : Written). length w.out) e, share_laws.within (to_write t.parser t.file) out),
    record {
      input = a.input;
      cut = a.cut;
      said = ap shown e ∙ ap (λ (t : Feed). shown (placed (to_write t.parser t.file) out)) a.fed-all ∙ go a.cut;
    },
  )
    where
      s : Feed
      s = feed_all start a.input

      go : (cut : Bool) → shown (placed (to_write (unless cut s).parser (unless cut s).file) out) ≡ pick cut (refused_line 1) (printed_by asked a.input)
      go true = share_laws.failed-read s.parser s.file out (feed-laws.same_length start a.input ∙ l.file-room) l.out-room
      go false = share_laws.decides s.parser s.file out (feed-laws.same_length start a.input ∙ l.file-room) l.out-room ∙ feed-laws.decides asked file a.input l.file-room
