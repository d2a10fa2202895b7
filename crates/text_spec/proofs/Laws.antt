-- Reading undoes writing, and writing undoes reading.
-- Assumes nothing.
use mathlib.Core.Path.{◌≡◌, refl, sym, ap, subst, ◌∙◌}
use mathlib.Core.Bool.{true}
use mathlib.Core.Logic.{◌↔◌}
use mathlib.Core.Option.{Option, some, none}
use mathlib.Core.List.{List, [], ◌∷◌, ◌++◌, append_assoc}
use Prim.Native.Nat.{ℕ, zero, suc, ◌*◌, ◌≤◌}
use native.Mathlib.Omega.{arith}
use lib.Dec.{ltb, leb, eqb}
use lib.ListN.{length, length-append}
use borrow.Author.Tests.{eqb-true, eq-eqb}
use Rattle.lists.specs.Lists.{All, Bytes, joined}
use Rattle.lists.proofs.Tests.{alls-hold, hold-alls}
use Rattle.number_lines.proofs.Picks.{yes}
use Rattle.point_lines.specs.Lines.{read_pairs}
use Rattle.sizes.specs.declared.Sizes.{Sizes}
use Rattle.sizes.specs.Sizing.{legal, α, B, stripes}
use Rattle.sizes.proofs.Legal.{legal-facts}
use Rattle.mbcr.specs.Share.{pointed}
use Rattle.board_spec.specs.Text.{decimal, hex_pair, text_line, points_line, share_text}
use Rattle.text_spec.specs.Texts.{ShareTold, text_of, texts_joined, admitted, writable, six_lines, some_points, Found, found, data_at, points_at}
use Rattle.text_spec.specs.Texts.{text_at, whole, read_text, before, onward, or_no_text, texts_up_to, texts_of}
use Rattle.text_spec.specs.Laws.{Writable}
use Rattle.text_spec.proofs.Forms.{six-taken, pairs-line-taken, line-apart}
use Rattle.text_spec.proofs.Points.{points-taken, points-back}
use Rattle.text_spec.proofs.Back.{none-some, picked, line-back, name_back, pairs-back}

-- ---- what writable says

pub record Facts (t : ShareTold) : Type 0 where
  pub is-legal : legal t.sizes ≡ true
  pub not-long : leb t.length (4096 * B t.sizes) ≡ true
  pub known : ltb t.node t.sizes.n ≡ true
  pub is-pointed : pointed t.sizes t.points ≡ true
  pub long : length t.share ≡ stripes t.sizes t.length * α t.sizes

pub facts-of : (t : ShareTold) → writable t ≡ true → Facts t
unfolding writable admitted
facts-of t h =
    let e = alls-hold (admitted t.sizes t.node t.length ∷ pointed t.sizes t.points ∷ eqb (length t.share) (stripes t.sizes t.length * α t.sizes) ∷ []) h in
    let a = alls-hold (legal t.sizes ∷ leb t.length (4096 * B t.sizes) ∷ ltb t.node t.sizes.n ∷ []) e.0 in
    record { is-legal = a.0; not-long = a.1.0; known = a.1.1.0; is-pointed = e.1.0; long = eqb-true _ _ e.1.1.0 }

admits : (t : ShareTold) → Facts t → admitted t.sizes t.node t.length ≡ true
unfolding admitted
admits t f = hold-alls (legal t.sizes ∷ leb t.length (4096 * B t.sizes) ∷ ltb t.node t.sizes.n ∷ []) (f.is-legal, (f.not-long, (f.known, tt)))

pub of-facts : (t : ShareTold) → Facts t → writable t ≡ true
unfolding writable
of-facts t f =
    hold-alls (admitted t.sizes t.node t.length ∷ pointed t.sizes t.points ∷ eqb (length t.share) (stripes t.sizes t.length * α t.sizes) ∷ [])
    (admits t f, (f.is-pointed, (eq-eqb _ _ f.long, tt)))

-- ---- the lines of a text, one after another

eight : (a b c d e f p q behind : List ℕ) → (a ++ b ++ c ++ d ++ e ++ f ++ p ++ q) ++ behind ≡ a ++ (b ++ (c ++ (d ++ (e ++ (f ++ (p ++ (q ++ behind)))))))
eight a b c d e f p q behind =
    append_assoc (a ++ b ++ c ++ d ++ e ++ f ++ p) q behind
    ∙ append_assoc (a ++ b ++ c ++ d ++ e ++ f) p (q ++ behind)
    ∙ append_assoc (a ++ b ++ c ++ d ++ e) f (p ++ (q ++ behind))
    ∙ append_assoc (a ++ b ++ c ++ d) e (f ++ (p ++ (q ++ behind)))
    ∙ append_assoc (a ++ b ++ c) d (e ++ (f ++ (p ++ (q ++ behind))))
    ∙ append_assoc (a ++ b) c (d ++ (e ++ (f ++ (p ++ (q ++ behind)))))
    ∙ append_assoc a b (c ++ (d ++ (e ++ (f ++ (p ++ (q ++ behind))))))

-- a text by its lines
abbrev by_lines : Sizes → List ℕ → ℕ → ℕ → List ℕ → List ℕ
by_lines z points L node rest =
    text_line (0x6E ∷ []) (decimal z.n)
    ++ (text_line (0x6B ∷ []) (decimal z.k)
    ++ (text_line (0x64 ∷ []) (decimal z.d)
    ++ (text_line (0x72 ∷ []) (decimal z.r)
    ++ (text_line (0x6E ∷ 0x6F ∷ 0x64 ∷ 0x65 ∷ []) (decimal node)
    ++ (text_line (0x6C ∷ 0x65 ∷ 0x6E ∷ 0x67 ∷ 0x74 ∷ 0x68 ∷ []) (decimal L) ++ (points ++ rest))))))

abbrev data_text : List ℕ → List ℕ
data_text share = text_line (0x64 ∷ 0x61 ∷ 0x74 ∷ 0x61 ∷ []) (joined hex_pair share)

text-lines : (t : ShareTold) (behind : List ℕ)
    → text_of t ++ behind ≡ by_lines t.sizes (points_line t.sizes t.points) t.length t.node (data_text t.share ++ behind)
unfolding share_text
text-lines t behind =
    eight (text_line (0x6E ∷ []) (decimal t.sizes.n)) (text_line (0x6B ∷ []) (decimal t.sizes.k)) (text_line (0x64 ∷ []) (decimal t.sizes.d))
    (text_line (0x72 ∷ []) (decimal t.sizes.r)) (text_line (0x6E ∷ 0x6F ∷ 0x64 ∷ 0x65 ∷ []) (decimal t.node))
    (text_line (0x6C ∷ 0x65 ∷ 0x6E ∷ 0x67 ∷ 0x74 ∷ 0x68 ∷ []) (decimal t.length)) (points_line t.sizes t.points) (data_text t.share) behind

-- ---- what is written is read

pub writes_reads : (t : ShareTold) → Writable t → (behind : List ℕ) → text_at (text_of t ++ behind) ≡ some (record { told = t; behind = behind })
unfolding text_at
writes_reads t h behind =
    let f = facts-of t h.0 in
    let z = t.sizes in
    let few = (legal-facts z f.is-legal).few in
    ap text_at (text-lines t behind)
    ∙ six-taken none z t.node t.length (points_line z t.points ++ (data_text t.share ++ behind)) points_at
    ∙ yes (admitted z t.node t.length) _ none (admits t f)
    ∙ points-taken z few none t.points f.is-pointed (data_text t.share ++ behind) (data_at z t.node t.length) (not-p t.share behind)
    ∙ pairs-line-taken none (0x64 ∷ 0x61 ∷ 0x74 ∷ 0x61 ∷ []) t.share (stripes z t.length * α z) h.1 f.long behind (found z t.node t.length t.points)
  where
    not-p : (share behind : List ℕ) → lib.ListN.get_or (data_text share ++ behind) 0 0 ≡ 0x70 → ⊥
    not-p share behind e = omega (arith, e)

-- ---- what is read was written

some_is : {X : Type 0} {x y : X} → ◌≡◌ {A = Option X} (some x) (some y) → x ≡ y
some_is e = cc

module _ {X : Type 0} where
  six-back : (text : List ℕ) (go : Sizes → ℕ → ℕ → List ℕ → Option X) (x : X) → six_lines none text go ≡ some x
      → (z : Sizes) × (node : ℕ) × (L : ℕ) × (rest : List ℕ) × (go z node L rest ≡ some x)
      × ((points behind : List ℕ) → rest ≡ points ++ behind → text ≡ by_lines z points L node behind)
  six-back text go x e =
      let a = line-back (0x6E ∷ 0x3D ∷ []) text _ e in
      let b = line-back (0x6B ∷ 0x3D ∷ []) a.1 _ a.3 in
      let c = line-back (0x64 ∷ 0x3D ∷ []) b.1 _ b.3 in
      let d = line-back (0x72 ∷ 0x3D ∷ []) c.1 _ c.3 in
      let m = line-back (0x6E ∷ 0x6F ∷ 0x64 ∷ 0x65 ∷ 0x3D ∷ []) d.1 _ d.3 in
      let l = line-back (0x6C ∷ 0x65 ∷ 0x6E ∷ 0x67 ∷ 0x74 ∷ 0x68 ∷ 0x3D ∷ []) m.1 _ m.3 in (
        record { n = a.0; k = b.0; d = c.0; r = d.0 },
        m.0,
        l.0,
        l.1,
        l.3,
        λ points behind q.
            on (0x6E ∷ []) a.0 a.2
            (on (0x6B ∷ []) b.0 b.2
            (on (0x64 ∷ []) c.0 c.2
            (on (0x72 ∷ []) d.0 d.2
            (on (0x6E ∷ 0x6F ∷ 0x64 ∷ 0x65 ∷ []) m.0 m.2
            (on (0x6C ∷ 0x65 ∷ 0x6E ∷ 0x67 ∷ 0x74 ∷ 0x68 ∷ []) l.0 l.2 q))))),
      )
    where
      -- a line before what is behind it
      on : (name : List ℕ) (v : ℕ) {text rest behind : List ℕ} → text ≡ name ++ (0x3D ∷ []) ++ (decimal v ++ (0x0A ∷ rest)) → rest ≡ behind
          → text ≡ text_line name (decimal v) ++ behind
      on name v {text} {rest} {behind} e q = e ∙ sym (line-apart name (decimal v) rest) ∙ ap (λ (l : List ℕ). text_line name (decimal v) ++ l) q

-- from the line of data on
data-back : (z : Sizes) (node L : ℕ) (xs input : List ℕ) (f : Found) → data_at z node L xs input ≡ some f
    → (share : List ℕ) × (length share ≡ stripes z L * α z) × Bytes share × (input ≡ data_text share ++ f.behind)
    × (record { sizes = z; points = xs; length = L; node = node; share = share } ≡ f.told)
data-back z node L xs input f e =
    let n = name_back (0x64 ∷ 0x61 ∷ 0x74 ∷ 0x61 ∷ 0x3D ∷ []) input (λ input. read_pairs none (stripes z L * α z) input (found z node L xs)) e in
    let d = pairs-back (stripes z L * α z) n.0 (found z node L xs) n.2 in
    let here = some_is d.5 in (
      d.0,
      d.2,
      d.3,
      n.1 ∙ ap (λ (l : List ℕ). (0x64 ∷ 0x61 ∷ 0x74 ∷ 0x61 ∷ 0x3D ∷ []) ++ l) d.4 ∙ sym (line-apart (0x64 ∷ 0x61 ∷ 0x74 ∷ 0x61 ∷ []) (joined hex_pair d.0) d.1)
          ∙ ap (λ (f : Found). data_text d.0 ++ f.behind) here,
      ap (λ (f : Found). f.told) here,
    )

-- from the line of points on
rest_back : (z : Sizes) (node L : ℕ) (input : List ℕ) (f : Found) → points_at z node L input ≡ some f
    → (xs : List ℕ) × (share : List ℕ) × (input ≡ points_line z xs ++ (data_text share ++ f.behind))
    × (record { sizes = z; points = xs; length = L; node = node; share = share } ≡ f.told)
    × Writable (record { sizes = z; points = xs; length = L; node = node; share = share })
unfolding admitted
rest_back z node L input f e =
    let b = picked (admitted z node L) (some_points none z input (data_at z node L)) e in
    let ok = alls-hold (legal z ∷ leb L (4096 * B z) ∷ ltb node z.n ∷ []) b.0 in
    let p = points-back z (legal-facts z ok.0).few ok.0 input (data_at z node L) f b.1 in
    let d = data-back z node L p.0 p.1 f p.4 in (
      p.0,
      d.0,
      p.2 ∙ ap (λ (l : List ℕ). points_line z p.0 ++ l) d.3,
      d.4,
      (of-facts _ (record { is-legal = ok.0; not-long = ok.1.0; known = ok.1.1.0; is-pointed = p.3; long = d.1 }), d.2),
    )

pub reads-writes : (text : List ℕ) (f : Found) → text_at text ≡ some f → (text ≡ text_of f.told ++ f.behind) × Writable f.told
unfolding text_at
reads-writes text f e = by (six-back text points_at f e)
  where
    by : (z : Sizes) × (node : ℕ) × (L : ℕ) × (rest : List ℕ) × (points_at z node L rest ≡ some f)
        × ((points behind : List ℕ) → rest ≡ points ++ behind → text ≡ by_lines z points L node behind)
        → (text ≡ text_of f.told ++ f.behind) × Writable f.told
    by a =
        let r = rest_back a.0 a.1 a.2 a.3 f a.4 in
        subst (λ (t : ShareTold). (text ≡ text_of t ++ f.behind) × Writable t) r.3 (
          a.5 (points_line a.0 r.0) (data_text r.1 ++ f.behind) r.2
              ∙ sym (text-lines (record { sizes = a.0; points = r.0; length = a.2; node = a.1; share = r.1 }) f.behind),
          r.4,
        )

-- ---- one text for a share

append-none : (l : List ℕ) → l ++ [] ≡ l
append-none [] = refl
append-none (x ∷ l) = ap {B = List ℕ} (λ m. x ∷ m) (append-none l)

written_read : (t : ShareTold) → Writable t → text_at (text_of t) ≡ some (record { told = t; behind = [] })
written_read t h = ap text_at (sym (append-none (text_of t))) ∙ writes_reads t h []

pub one-text : (t u : ShareTold) → Writable t → Writable u → text_of t ≡ text_of u → t ≡ u
one-text t u h k e = ap (λ (f : Found). f.told) (some_is (sym (written_read t h) ∙ ap text_at e ∙ written_read u k))

no_length : (l : List ℕ) → eqb (length l) 0 ≡ true → l ≡ []
no_length [] e = refl
no_length (x ∷ l) e = absurd (omega (arith, eqb-true (length (x ∷ l)) 0 e))

pub text-told : (text : List ℕ) (t : ShareTold) → (read_text text ≡ some t) ↔ ((text ≡ text_of t) × Writable t)
unfolding read_text
text-told text t = (there (text_at text) refl, λ h. ap (λ (l : List ℕ). whole (text_at l)) h.0 ∙ ap whole (written_read t h.1))
  where
    there : (o : Option Found) → text_at text ≡ o → whole o ≡ some t → (text ≡ text_of t) × Writable t
    there none q e = none-some e
    there (some f) q e =
        let p = picked (eqb (length f.behind) 0) (some f.told) e in
        let r = reads-writes text f q in
        let none-behind = no_length f.behind p.0 in
        subst (λ (u : ShareTold). (text ≡ text_of u) × Writable u) (some_is p.1)
        (r.0 ∙ ap (λ (l : List ℕ). text_of f.told ++ l) none-behind ∙ append-none (text_of f.told), r.1)

-- ---- any number of texts

-- no text is empty
pub text-begins : (t : ShareTold) → (l : List ℕ) × (text_of t ≡ 0x6E ∷ l)
unfolding share_text
text-begins t = (lib.ListN.drop 1 (text_of t), refl)

-- these texts were written
abbrev Texts : List ℕ → List ShareTold → Type 0
Texts text ts = (text ≡ texts_joined ts) × All Writable ts

no_text : (ts : List ShareTold) → some [] ≡ some ts → Texts [] ts
no_text ts q = subst (λ (ts : List ShareTold). Texts [] ts) (some_is q) (refl, tt)

text-before : (text : List ℕ) (f : Found) → text_at text ≡ some f → (ts : List ShareTold) (o : Option (List ShareTold))
    → ((us : List ShareTold) → o ≡ some us → Texts f.behind us) → before f.told o ≡ some ts → Texts text ts
text-before text f q ts none ih e = none-some e
text-before text f q ts (some us) ih e =
    let r = reads-writes text f q in
    let h = ih us refl in
    subst (λ (ts : List ShareTold). Texts text ts) (some_is e) (r.0 ∙ ap (λ (l : List ℕ). text_of f.told ++ l) h.0, (r.1, h.1))

text-onward : (m : ℕ) (text : List ℕ) (ts : List ShareTold) → ((rest : List ℕ) (us : List ShareTold) → texts_up_to m rest ≡ some us → Texts rest us)
    → (o : Option Found) → text_at text ≡ o → onward o (λ rest. texts_up_to m rest) ≡ some ts → Texts text ts
text-onward m text ts ih none q e = none-some e
text-onward m text ts ih (some f) q e = text-before text f q ts (texts_up_to m f.behind) (ih f.behind) e

texts-back : (m : ℕ) (text : List ℕ) (ts : List ShareTold) → texts_up_to m text ≡ some ts → Texts text ts
texts-back zero [] ts e = no_text ts e
texts-back zero (b ∷ input) ts e = none-some e
texts-back (suc m) [] ts e = no_text ts e
texts-back (suc m) (b ∷ input) ts e = text-onward m (b ∷ input) ts (λ rest us q. texts-back m rest us q) (text_at (b ∷ input)) refl e

texts-taken : (m : ℕ) (ts : List ShareTold) → All Writable ts → length (texts_joined ts) ≤ m → texts_up_to m (texts_joined ts) ≡ some ts
texts-taken zero [] h l = refl
texts-taken (suc m) [] h l = refl
texts-taken zero (t ∷ ts) h l =
    let e = ap length (text-begins t).1 in
    absurd (omega (arith, l, length-append (text_of t) (texts_joined ts), e))
texts-taken (suc m) (t ∷ ts) h l =
    let e = ap length (text-begins t).1 in
    let ih = texts-taken m ts h.1 (omega (arith, l, length-append (text_of t) (texts_joined ts), e)) in
    not-empty (texts_joined ts) (onward (text_at (text_of t ++ texts_joined ts)) (λ rest. texts_up_to m rest))
    ∙ ap (λ (o : Option Found). onward o (λ rest. texts_up_to m rest)) (writes_reads t h.0 (texts_joined ts))
    ∙ ap (before t) ih
  where
    not-empty : (rest : List ℕ) (o : Option (List ShareTold)) → or_no_text (text_of t ++ rest) o ≡ o
    not-empty rest o = ap (λ (l : List ℕ). or_no_text (l ++ rest) o) (text-begins t).1

pub texts-told : (text : List ℕ) (ts : List ShareTold) → (texts_of text ≡ some ts) ↔ ((text ≡ texts_joined ts) × All Writable ts)
unfolding texts_of
texts-told text ts = (
  texts-back (length text) text ts,
  λ h. ap (λ (l : List ℕ). texts_up_to (length l) l) h.0 ∙ texts-taken (length (texts_joined ts)) ts h.1 (omega arith),
)
