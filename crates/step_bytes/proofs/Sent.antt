-- Bytes out of packets that lie in two places, in one row.
-- Assumes nothing.
use mathlib.Core.Path.{◌≡◌, sym, ap, ap₂, ◌∙◌}
use mathlib.Core.List.{List, ◌∷◌, ◌++◌, append_assoc}
use Prim.Native.Nat.{ℕ, zero, suc, ◌+◌, ◌*◌, ◌-◌, ◌<◌, ◌≤◌}
use native.Mathlib.Nat.{zero-add, suc-add, add-mul}
use native.Mathlib.Omega.{arith}
use lib.ListN.{length, get_or, take, drop, length-append, get_or-append}
use lib.Seq.{take_at, get_or-append-add}
use borrow.Rule.Slice.PartMut.{put_mid}
use Rattle.lists.specs.Lists.{tabulate}
use Rattle.lists.proofs.Pieces.{length-tabulate, tabulate-ext}
use Rattle.lists.proofs.Put.{part_end}
use Rattle.sizes.specs.declared.Sizes.{Sizes}
use Rattle.mbcr.specs.Rebuild.{received, exchanged}
use Rattle.stripe_exchange.proofs.Packets.{exchanged-made, length-received}

tabulate-add : (e m : ℕ) (f : ℕ → ℕ) → tabulate (e + m) f ≡ tabulate e f ++ tabulate m (λ u. f (e + u))
tabulate-add zero m f = ap (λ (n : ℕ). tabulate n f) (zero-add m) ∙ tabulate-ext m f (λ u. f (zero + u)) (λ u h. ap f (sym (zero-add u)))
tabulate-add (suc e) m f =
    ap (λ (n : ℕ). tabulate n f) (suc-add e m)
    ∙ ap {B = List ℕ} (λ l. f 0 ∷ l) (tabulate-add e m (λ i. f (suc i))
    ∙ ap (λ (l : List ℕ). tabulate e (λ i. f (suc i)) ++ l) (tabulate-ext m (λ u. f (suc (e + u))) (λ u. f (suc e + u)) (λ u h. ap f (sym (suc-add e u)))))

-- packets of S bytes: e of them in x, m in y
pub sent-both : (z : Sizes) (S s e m : ℕ) (x y : List ℕ) → s < S → length x ≡ e * S → e + m ≡ z.r - 1
    → tabulate e (λ u. get_or x (u * S + s) 0) ++ tabulate m (λ u. get_or y (u * S + s) 0) ≡ exchanged z S s (x ++ y)
sent-both z S s e m x y hs lx em =
    let f : ℕ → ℕ = λ u. get_or (x ++ y) (u * S + s) 0 in
    ap₂ {C = List ℕ} (λ a b. a ++ b)
    (tabulate-ext e (λ u. get_or x (u * S + s) 0) f (λ u h. sym (get_or-append x y 0 (u * S + s) (omega (arith, part_end u S e h, lx, hs)))))
    (tabulate-ext m (λ u. get_or y (u * S + s) 0) (λ u. f (e + u)) (λ u h.
    let i : (e + u) * S + s ≡ length x + (u * S + s) = omega (arith, add-mul e u S, lx) in
    sym (ap (λ (n : ℕ). get_or (x ++ y) n 0) i ∙ get_or-append-add x y (u * S + s) 0)))
    ∙ sym (tabulate-add e m f)
    ∙ ap (λ (n : ℕ). tabulate n f) em
    ∙ exchanged-made z S s (x ++ y) hs

-- a third part behind two
behind : (d mid last : ℕ) (l a b c : List ℕ) → length a ≡ d → length b ≡ mid - d → length c ≡ last - mid → d ≤ mid → mid ≤ last
    → take last (put_mid mid (last - mid) (put_mid d (mid - d) (put_mid 0 (d - 0) l a) b) c) ≡ a ++ (b ++ c)
behind d mid last l a b c la lb lc h k =
    let l₁ : List ℕ = put_mid 0 (d - 0) l a in
    let l₂ : List ℕ = put_mid d (mid - d) l₁ b in
    let t₁ : take d l₁ ≡ a = take_at a (drop (d - 0) l) d la in
    let e₂ : l₂ ≡ (a ++ b) ++ drop (mid - d) (drop d l₁) =
    ap (λ (q : List ℕ). q ++ (b ++ drop (mid - d) (drop d l₁))) t₁ ∙ sym (append_assoc a b (drop (mid - d) (drop d l₁))) in
    let lab : length (a ++ b) ≡ mid = length-append a b ∙ ap₂ ◌+◌ la lb ∙ omega arith in
    let t₂ : take mid l₂ ≡ a ++ b = ap (take mid) e₂ ∙ take_at (a ++ b) (drop (mid - d) (drop d l₁)) mid lab in
    let e₃ : put_mid mid (last - mid) l₂ c ≡ ((a ++ b) ++ c) ++ drop (last - mid) (drop mid l₂) =
    ap (λ (q : List ℕ). q ++ (c ++ drop (last - mid) (drop mid l₂))) t₂ ∙ sym (append_assoc (a ++ b) c (drop (last - mid) (drop mid l₂))) in
    let labc : length ((a ++ b) ++ c) ≡ last = length-append (a ++ b) c ∙ ap₂ ◌+◌ lab lc ∙ omega arith in
    ap (take last) e₃ ∙ take_at ((a ++ b) ++ c) (drop (last - mid) (drop mid l₂)) last labc ∙ append_assoc a b c

-- the row, from what the callees give
pub gathered : (z : Sizes) (S s e : ℕ) (packets stood exchanges got a b c : List ℕ) → e < z.r → s < S → length stood ≡ e * S → length got ≡ z.d + z.r
    → a ≡ received z S 1 s packets → b ≡ tabulate e (λ u. get_or stood (u * S + s) 0) → c ≡ tabulate (z.r - 1 - e) (λ u. get_or exchanges (u * S + s) 0)
    → let d = z.d in let last = length got - 1 in
    take last (put_mid (d + e) (last - (d + e)) (put_mid d (d + e - d) (put_mid 0 (d - 0) got a) b) c) ≡ received z S 1 s packets ++ exchanged z S s (stood ++ exchanges)
gathered z S s e packets stood exchanges got a b c he hs ls lg ea eb ec =
    let la : length a ≡ z.d = ap length ea ∙ length-received z S 1 s packets in
    let lb : length b ≡ e = ap length eb ∙ length-tabulate e _ in
    let lc : length c ≡ z.r - 1 - e = ap length ec ∙ length-tabulate (z.r - 1 - e) _ in
    behind z.d (z.d + e) (length got - 1) got a b c la (lb ∙ omega arith) (lc ∙ omega (arith, lg, he)) (omega arith) (omega (arith, lg, he))
    ∙ ap₂ {C = List ℕ} (λ x y. x ++ y) ea
    (ap₂ {C = List ℕ} (λ x y. x ++ y) eb ec ∙ sent-both z S s e (z.r - 1 - e) stood exchanges hs ls (omega (arith, he)))
