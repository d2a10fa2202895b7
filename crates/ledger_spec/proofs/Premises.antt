-- Demand 3's premises can be met.
-- Assumes nothing.
use Prim.Native.Nat.{ℕ, ◌+◌, ◌-◌, ◌*◌, ◌≤◌, ◌<◌, min}
use mathlib.Core.Path.{◌≡◌, refl, sym, ◌∙◌, ap, ap₂, subst}
use mathlib.Core.Bool.{Bool, true, false}
use mathlib.Core.List.{List, [], ◌∷◌, map}
use mathlib.Core.Option.{Option, some, none, some-injective}
use mathlib.Core.Logic.{◌≢◌, ◌↔◌}
use native.Mathlib.Omega.{arith}
use lib.ListN.{length, take, drop, get_or, length-take, length-drop}
use native.Mathlib.Nat.{min-le_left, zero-min, zero-mul}
use lib.Dec.{eqb}
use borrow.Author.Tests.{eqb-true, eq-eqb}
use lib.Seq.{get_or-take, get_or-drop, ext_get_or}
use Rattle.lists.specs.Tests.{pick, among}
use Rattle.lists.specs.Lists.{All, Bytes}
use Rattle.sizes.specs.Sizing.{α, stripes}
use Rattle.store_spec.specs.Record.{Record, part, part_len, stripe_count}
use Rattle.beside_spec.specs.Running.{Running, packets_len}
use Rattle.beside_spec.specs.Lying.{place_of}
use Rattle.beside_spec.specs.Acting.{Call, write, lose, repair, read, edit, start, step, careful, move}
use Rattle.ledger_spec.specs.Ledger.{Event, call, power_fails, Book, Repairing, during, book_length, book_record}
use Rattle.ledger_spec.specs.Ledger.{carried_by, Step, Altered, Unaltered, Fair, FairEvent, Allowed, lent, next, book_next, open_book}
use Rattle.beside_spec.specs.Acting.{State}
use Rattle.ledger_spec.specs.Demand3.{begun, events}
use Rattle.ledger_spec.specs.Premises.{none_carried, files_of, files, IdleGiven, lent_again, unaltered, AgreeInService, Asked, bare, Premises}

pub as_it_was : (b : Book) (s : Record) (area : List ℕ) → Altered b s area area
as_it_was b s area = record { as_long = refl; in-service = λ i e. refl }

-- ---- the packet area

-- the same packet area again
pub lent-as-left : (b : Book) (old : List ℕ) → Unaltered b old old
lent-as-left b old r e l = refl

pub first-free : (b : Book) (old new : List ℕ) → none_carried b ≡ true → Unaltered b old new
first-free b old new e r q l =
    let z : carried_by b r ≡ 0 = eqb-true (carried_by b r) 0 (ap (λ (o : Option Repairing). during o true (λ r. eqb (carried_by b r) 0)) (sym q) ∙ e) in
    let S : ℕ = stripe_count (book_record b) in
    let t : ℕ = length r.fresh in
    let p : place_of (book_record b) t (carried_by b r) ≡ 0 =
    ap (place_of (book_record b) t) z ∙ ap (λ (m : ℕ). (0 + m) * S) (zero-min (t * b.sizes.d)) ∙ zero-mul S in
    ap (λ (m : ℕ). take m new) p ∙ sym (ap (λ (m : ℕ). take m old) p)

-- nothing is carried exactly where as many are left as there are
none-carried-is : (b : Book)
    → (none_carried b ≡ true) ↔ ((r : Repairing) → b.repairing ≡ some r → length r.fresh * (b.sizes.d + b.sizes.r - 1) ≤ r.left)
none-carried-is b = (
  (λ e r q. omega (arith, eqb-true (carried_by b r) 0 (ap (λ (o : Option Repairing). during o true (λ r. eqb (carried_by b r) 0)) (sym q) ∙ e))),
  (λ h. back b.repairing h),
)
  where
    back : (o : Option Repairing) → ((r : Repairing) → o ≡ some r → length r.fresh * (b.sizes.d + b.sizes.r - 1) ≤ r.left)
        → during o true (λ r. eqb (carried_by b r) 0) ≡ true
    back none h = refl
    back (some r) h = eq-eqb (carried_by b r) 0 (omega (arith, h r refl))

wrong-free : (b : Book) (old new : List ℕ) → ((r : Repairing) → b.repairing ≡ some r → length new ≢ packets_len (book_record b) (length r.fresh)) → Unaltered b old new
wrong-free b old new h r q l = absurd (h r q l)

by-turns : (b : Book) (old packets : List ℕ) → Unaltered b old (pick (none_carried b) packets old)
by-turns b old packets = go (none_carried b) refl
  where
    go : (t : Bool) → none_carried b ≡ t → Unaltered b old (pick t packets old)
    go true e = first-free b old packets e
    go false e = lent-as-left b old

-- ---- lists

-- an event whose file is of bytes is fair
pub fair : (w : State) (b : Book) (e : Event) (es : List Event) → All Bytes (files (e ∷ es)) → IdleGiven (e ∷ es)
    → FairEvent b w.packets (lent_again w b e) × All Bytes (files es) × IdleGiven es
fair w b (call (write file)) es h i = (h.0, h.1, i)
fair w b (call (lose board)) es h i = (tt, h, i)
fair w b (call (repair fresh helpers stand_ins)) es h i = (tt, h, i)
fair w b (call (read boards output)) es h i = (tt, h, i)
fair w b (call (edit offset bytes boards)) es h i = (h.0, h.1, i)
fair w b (call (start fresh helpers stand_ins)) es h i = (tt, h, i)
fair w b (call (step allowance packets)) es h i = (by-turns b w.packets packets, h, i)
fair w b (call (careful boards output)) es h i = (tt, h, i)
fair w b (call (move board point helpers partners)) es h i = (h.0.0, h.1, i)
fair w b (power_fails p) es h i = (i.0, h, i.1)

pub fair-bytes : (b : Book) (old : List ℕ) (c : Call) → Fair b old c → All Bytes (files_of c)
fair-bytes b old (write file) h = (h, tt)
fair-bytes b old (lose board) h = tt
fair-bytes b old (repair fresh helpers stand_ins) h = tt
fair-bytes b old (read boards output) h = tt
fair-bytes b old (edit offset bytes boards) h = (h, tt)
fair-bytes b old (start fresh helpers stand_ins) h = tt
fair-bytes b old (step allowance packets) h = tt
fair-bytes b old (careful boards output) h = tt
fair-bytes b old (move board point helpers partners) h = ((h, tt), tt)

all-allowed : (w : State) (b : Book) (es : List Event) → All Bytes (files es) → IdleGiven es → Allowed w b (unaltered w b es)
all-allowed w b [] h i = tt
all-allowed w b (e ∷ es) h i =
    let f = fair w b e es h i in
    (as_it_was b w.kept w.area, f.0, all-allowed (next w (lent_again w b e)) (book_next b (lent_again w b e)) es f.1 f.2)

pub again-bare : (w : State) (b : Book) (e : Event) → bare (lent_again w b e) ≡ bare e
again-bare w b (call (write file)) = refl
again-bare w b (call (lose board)) = refl
again-bare w b (call (repair fresh helpers stand_ins)) = refl
again-bare w b (call (read boards output)) = refl
again-bare w b (call (edit offset bytes boards)) = refl
again-bare w b (call (start fresh helpers stand_ins)) = refl
again-bare w b (call (step allowance packets)) = refl
again-bare w b (call (careful boards output)) = refl
again-bare w b (call (move board point helpers partners)) = refl
again-bare w b (power_fails p) = refl

same-events : (w : State) (b : Book) (es : List Event) → map bare (events (unaltered w b es)) ≡ map bare es
same-events w b [] = refl
same-events w b (e ∷ es) =
    ap₂ {C = List Event} (λ x r. x ∷ r) (again-bare w b e) (same-events (next w (lent_again w b e)) (book_next b (lent_again w b e)) es)

-- byte q of a board's part is byte i × C × α + q of the area
part_at : (s : Record) (area : List ℕ) (i q : ℕ) → q < part_len s → get_or (part s area i) q 0 ≡ get_or area (i * part_len s + q) 0
part_at s area i q h = get_or-take (part_len s) (drop (i * part_len s) area) q 0 h ∙ get_or-drop (i * part_len s) area q 0

length_part : (s : Record) (old new : List ℕ) (i : ℕ) → length new ≡ length old → length (part s new i) ≡ length (part s old i)
length_part s old new i e =
    length-take (part_len s) (drop (i * part_len s) new)
    ∙ ap (λ (m : ℕ). min (part_len s) m) (length-drop (i * part_len s) new ∙ ap (λ (m : ℕ). m - i * part_len s) e ∙ sym (length-drop (i * part_len s) old))
    ∙ sym (length-take (part_len s) (drop (i * part_len s) old))

part-short : (s : Record) (area : List ℕ) (i q : ℕ) → q < length (part s area i) → q < part_len s
part-short s area i q h = omega (arith, length-take (part_len s) (drop (i * part_len s) area), min-le_left (part_len s) (length (drop (i * part_len s) area)))

-- of two areas of one length, the parts of some boards are the same exactly where all bytes are that lie in them
pub parts-agree : (P : ℕ → Type 0) (s : Record) (old new : List ℕ) → length new ≡ length old
    → ((i : ℕ) → P i → part s new i ≡ part s old i)
    ↔ ((i p : ℕ) → P i → i * part_len s ≤ p → p < i * part_len s + part_len s → get_or new p 0 ≡ get_or old p 0)
parts-agree P s old new l = (
  (λ h i p e low high.
      let q : p - i * part_len s < part_len s = omega arith in
      let at : i * part_len s + (p - i * part_len s) ≡ p = omega arith in
      ap (λ (m : ℕ). get_or new m 0) (sym at)
      ∙ sym (part_at s new i (p - i * part_len s) q)
      ∙ ap (λ (l : List ℕ). get_or l (p - i * part_len s) 0) (h i e)
      ∙ part_at s old i (p - i * part_len s) q
      ∙ ap (λ (m : ℕ). get_or old m 0) at),
  (λ h i e. ext_get_or 0 (part s new i) (part s old i) (length_part s old new i l)
      (λ q k.
      let w : q < part_len s = part-short s new i q k in
      part_at s new i q w ∙ h i (i * part_len s + q) e (omega arith) (omega arith) ∙ sym (part_at s old i q w))),
)

altered-is : (b : Book) (s : Record) (old new : List ℕ) → Altered b s old new ↔ ((length new ≡ length old) × AgreeInService b s old new)
altered-is b s old new = (
  (λ a. (a.as_long, (parts-agree (λ i. among b.service i ≡ true) s old new a.as_long).0 a.in-service)),
  (λ h. record { as_long = h.0; in-service = (parts-agree (λ i. among b.service i ≡ true) s old new h.0).1 h.1 }),
)

-- ---- one entry more

-- what is asked of the event of an entry is that it is fair
pub fair-is : (w : State) (b : Book) (area : List ℕ) (e : Event) → Asked w b (record { area = area; event = e }) → FairEvent b w.packets e
fair-is w b area (call (write file)) a = a.writes_bytes file refl
fair-is w b area (call (lose board)) a = tt
fair-is w b area (call (repair fresh helpers stand_ins)) a = tt
fair-is w b area (call (read boards output)) a = tt
fair-is w b area (call (edit offset bytes boards)) a = a.edits-bytes offset bytes boards refl
fair-is w b area (call (start fresh helpers stand_ins)) a = tt
fair-is w b area (call (step allowance packets)) a = a.packets-lent allowance packets refl
fair-is w b area (call (careful boards output)) a = tt
fair-is w b area (call (move board point helpers partners)) a = a.moves-byte board point helpers partners refl
fair-is w b area (power_fails p) a = a.idle-given p refl

pub asked_is : (w : State) (b : Book) (t : Step) → Altered b w.kept w.area t.area → FairEvent b w.packets t.event → Asked w b t
asked_is w b t a f = record {
  as_long = a.as_long;
  agrees = ((altered-is b w.kept w.area t.area).0 a).1;
  writes_bytes = λ file e. subst (FairEvent b w.packets) e f;
  edits-bytes = λ offset bytes boards e. subst (FairEvent b w.packets) e f;
  moves-byte = λ board point helpers partners e. subst (FairEvent b w.packets) e f;
  packets-lent = λ allowance packets e. subst (FairEvent b w.packets) e f;
  idle-given = λ given e. subst (FairEvent b w.packets) e f;
}

more-allowed : (w : State) (b : Book) (t : Step) (ts : List Step)
    → Allowed w b (t ∷ ts) ↔ (Asked w b t × Allowed (next (lent w t) t.event) (book_next b t.event) ts)
more-allowed w b t ts = (
  (λ h. (asked_is w b t h.0 h.1, h.2)),
  (λ h. ((altered-is b w.kept w.area t.area).1 (h.0.as_long, h.0.agrees), fair-is w b t.area t.event h.0, h.1)),
)

-- two lists of one length begin alike exactly where they agree in each byte of the beginning
pub begins-alike : (m : ℕ) (old new : List ℕ) → length new ≡ length old
    → (take m new ≡ take m old) ↔ ((x : ℕ) → x < m → get_or new x 0 ≡ get_or old x 0)
begins-alike m old new l = (
  (λ e x h. sym (get_or-take m new x 0 h) ∙ ap (λ (k : List ℕ). get_or k x 0) e ∙ get_or-take m old x 0 h),
  (λ f. ext_get_or 0 (take m new) (take m old) (length-take m new ∙ ap (min m) l ∙ sym (length-take m old))
      (λ x k.
      let h : x < m = omega (arith, length-take m new, min-le_left m (length new)) in
      get_or-take m new x 0 h ∙ f x h ∙ sym (get_or-take m old x 0 h))),
)

unaltered-is : (b : Book) (r : Repairing) (old new : List ℕ) → b.repairing ≡ some r → length new ≡ length old
    → length old ≡ stripes b.sizes (book_length b) * length r.fresh * α b.sizes
    → let q = length r.fresh * (b.sizes.d + b.sizes.r - 1) - r.left in
    Unaltered b old new ↔ ((x : ℕ) → x < (q + min q (length r.fresh * b.sizes.d)) * stripes b.sizes (book_length b) → get_or new x 0 ≡ get_or old x 0)
unaltered-is b r old new e l m = (
  (λ u. (begins-alike (place r) old new l).0 (u r e (l ∙ m))),
  (λ f r' e' l'. subst (λ (x : Repairing). take (place x) new ≡ take (place x) old) (same r' e') ((begins-alike (place r) old new l).1 f)),
)
  where
    place : Repairing → ℕ
    place x = place_of (book_record b) (length x.fresh) (carried_by b x)

    same : (r' : Repairing) → b.repairing ≡ some r' → r ≡ r'
    same r' e' = some-injective r r' (sym e ∙ e')

files-other : (e : Event) (es : List Event) → ((file : List ℕ) → e ≢ call (write file)) → ((offset : ℕ) (bytes boards : List ℕ) → e ≢ call (edit offset bytes boards))
    → ((board point : ℕ) (helpers partners : List ℕ) → e ≢ call (move board point helpers partners)) → files (e ∷ es) ≡ files es
files-other (call (write file)) es a b c = absurd (a file refl)
files-other (call (lose board)) es a b c = refl
files-other (call (repair fresh helpers stand_ins)) es a b c = refl
files-other (call (read boards output)) es a b c = refl
files-other (call (edit offset bytes boards)) es a b c = absurd (b offset bytes boards refl)
files-other (call (start fresh helpers stand_ins)) es a b c = refl
files-other (call (step allowance packets)) es a b c = refl
files-other (call (careful boards output)) es a b c = refl
files-other (call (move board point helpers partners)) es a b c = absurd (c board point helpers partners refl)
files-other (power_fails p) es a b c = refl

-- a call, and no power failure
abbrev Called : Event → Type 0
Called (call c) = Unit
Called (power_fails p) = ⊥

idle-there : (e : Event) (es : List Event) → IdleGiven (e ∷ es) → ((p : Running) → e ≡ power_fails p → p.running ≡ false) × IdleGiven es
idle-there (call c) es h = ((λ p q. absurd (subst Called q tt)), h)
idle-there (power_fails p) es h = ((λ x q. ap given-running (sym q) ∙ h.0), h.1)
  where
    given-running : Event → Bool
    given-running (call c) = false
    given-running (power_fails p) = p.running

idle-back : (e : Event) (es : List Event) → ((p : Running) → e ≡ power_fails p → p.running ≡ false) → IdleGiven es → IdleGiven (e ∷ es)
idle-back (call c) es h i = i
idle-back (power_fails p) es h i = (h p refl, i)

again-other : (w : State) (b : Book) (e : Event) → ((allowance : ℕ) (packets : List ℕ) → e ≢ call (step allowance packets)) → lent_again w b e ≡ e
again-other w b (call (write file)) h = refl
again-other w b (call (lose board)) h = refl
again-other w b (call (repair fresh helpers stand_ins)) h = refl
again-other w b (call (read boards output)) h = refl
again-other w b (call (edit offset bytes boards)) h = refl
again-other w b (call (start fresh helpers stand_ins)) h = refl
again-other w b (call (step allowance packets)) h = absurd (h allowance packets refl)
again-other w b (call (careful boards output)) h = refl
again-other w b (call (move board point helpers partners)) h = refl
again-other w b (power_fails p) h = refl

whole-events : (w : State) (b : Book) (es : List Event) → All (λ e. (allowance : ℕ) (packets : List ℕ) → e ≢ call (step allowance packets)) es
    → events (unaltered w b es) ≡ es
whole-events w b [] h = refl
whole-events w b (e ∷ es) h =
    ap₂ {C = List Event} (λ x r. x ∷ r) (again-other w b e h.0) (whole-events (next w (lent_again w b e)) (book_next b (lent_again w b e)) es h.1)

bare-other : (e : Event) → ((allowance : ℕ) (packets : List ℕ) → e ≢ call (step allowance packets)) → bare e ≡ e
bare-other (call (write file)) h = refl
bare-other (call (lose board)) h = refl
bare-other (call (repair fresh helpers stand_ins)) h = refl
bare-other (call (read boards output)) h = refl
bare-other (call (edit offset bytes boards)) h = refl
bare-other (call (start fresh helpers stand_ins)) h = refl
bare-other (call (step allowance packets)) h = absurd (h allowance packets refl)
bare-other (call (careful boards output)) h = refl
bare-other (call (move board point helpers partners)) h = refl
bare-other (power_fails p) h = refl

pub premises : Premises
premises = record {
  all-allowed = λ old p z xs c area es h i. all-allowed (begun old p z xs c area) (open_book z xs c (length area)) es h i;
  fair-bytes = fair-bytes;
  same-events = same-events;
  none_allowed = λ w b. tt;
  more-allowed = more-allowed;
  first-free = λ b old new h. first-free b old new ((none-carried-is b).1 h);
  none-carried-is = none-carried-is;
  files-none = refl;
  files-write = λ file es. refl;
  files-edit = λ offset bytes boards es. refl;
  files-move = λ board point helpers partners es. refl;
  files-other = files-other;
  idle-none = tt;
  idle-more = λ e es. (idle-there e es, (λ h. idle-back e es h.0 h.1));
  again-free = λ w b allowance packets e. ap (λ (t : Bool). call (step allowance (pick t packets w.packets))) e;
  again-left = λ w b allowance packets e. ap (λ (t : Bool). call (step allowance (pick t packets w.packets))) e;
  again-other = again-other;
  whole-events = whole-events;
  bare_step = λ allowance packets. refl;
  bare-other = bare-other;
  unaltered-none = λ w b. refl;
  unaltered-more = λ w b e es. refl;
  wrong-free = wrong-free;
  altered-is = altered-is;
  unaltered-is = unaltered-is;
}
