-- Demand 2: what holds of the code, for all legal sizes and different byte points. proofs/Demand2.antt has `demand-2 : Demand2Claim`.
-- Assumes nothing.
use Rattle.std.specs.Prelude.{◌≡◌, true, ◌↔◌, ◌⊎◌, List, [], ◌∷◌, ◌++◌, ℕ, ◌+◌, ◌*◌, ◌-◌, ◌%◌, ◌≤◌, ◌<◌, length, get_or, take, drop}
use Rattle.std.proofs.Math.Option.{none, some}
use Rattle.lists.specs.Tests.{below, different}
use Rattle.lists.specs.Lists.{All, Bytes, tabulate, join, joined, piece}
use Rattle.gf256.specs.Field.{mul}
use Rattle.sizes.specs.declared.Sizes.{Sizes}
use Rattle.sizes.specs.Sizing.{legal, α, B, stripes}
use Rattle.polynomial.specs.Polynomial.{eval, interpolate, entry, plus, sum, power}
use Rattle.mbcr.specs.Share.{point, points, standard, DifferentPoints, stripe, grid, F, kept, share, shares}
use Rattle.mbcr.specs.Rebuild.{received, exchanged, own_f, own_g, helper_packet, stand_in_packet, exchange_packet, finished_share}
use Rattle.mbcr.specs.Read.{decoded_file, read_file}

-- board numbers below n, none twice, so many
abbrev pub Named : Sizes → ℕ → List ℕ → Type 0
Named z count boards = (length boards ≡ count) × (below z.n boards ≡ true) × (different boards ≡ true)

-- S of a file
abbrev pub S : Sizes → List ℕ → ℕ
S z file = stripes z (length file)

-- F(x_i, y_j) of stripe s of a file
abbrev pub symbol : Sizes → List ℕ → List ℕ → ℕ → ℕ → ℕ → ℕ
symbol z xs file s i j = F z (stripe z file s) (point xs i) (point xs j)

-- the packets to board i of helpers that hold their shares of the file
unfoldable pub packets_from_shares : Sizes → List ℕ → List ℕ → List ℕ → ℕ → List ℕ
packets_from_shares z xs file helpers i = joined (λ j. helper_packet z xs (S z file) j i (share z xs file j)) helpers

-- the packets to board i of partners, each of which had helpers of its own that hold their shares
unfoldable pub exchanges_from_shares : Sizes → List ℕ → List ℕ → List ℕ → (ℕ → List ℕ) → ℕ → List ℕ
exchanges_from_shares z xs file partners theirs i = joined (λ m. exchange_packet z xs (S z file) (theirs m) (packets_from_shares z xs file (theirs m) m) i) partners

-- g and f of a fresh board for stripe s, over any packets: "from the d first bytes"; "from d second bytes, r − 1 exchanged bytes and its own g_i(x_i)"
abbrev pub g_heard : Sizes → List ℕ → ℕ → List ℕ → List ℕ → ℕ → List ℕ
g_heard z xs S helpers packets s = interpolate (points xs helpers) (received z S 0 s packets)

abbrev pub f_heard : Sizes → List ℕ → ℕ → ℕ → List ℕ → List ℕ → List ℕ → List ℕ → ℕ → List ℕ
f_heard z xs S i helpers packets partners exchanges s =
    interpolate (points xs (helpers ++ partners ++ (i ∷ [])))
    (received z S 1 s packets ++ exchanged z S s exchanges ++ (eval (g_heard z xs S helpers packets s) (point xs i) ∷ []))

pub record Demand2 (z : Sizes) (xs : List ℕ) : Type 0 where
  -- "The stripe's bytes are, in this order, coefficients of F(X, Y) .. each group by i, then by j. All other coefficients are zero."
  pub coefficient-a : (u : List ℕ) → length u ≡ B z → (i j : ℕ) → i < z.k → j < z.k → entry (grid z u) i j ≡ get_or u (i * z.k + j) 0
  pub coefficient-b : (u : List ℕ) → length u ≡ B z → (i j : ℕ) → i < z.k → z.k ≤ j → j < z.d + z.r
      → entry (grid z u) i j ≡ get_or u (z.k * z.k + (i * (z.d + z.r - z.k) + (j - z.k))) 0
  pub coefficient-c : (u : List ℕ) → length u ≡ B z → (i j : ℕ) → z.k ≤ i → i < z.d → j < z.k
      → entry (grid z u) i j ≡ get_or u (z.k * (z.d + z.r) + ((i - z.k) * z.k + j)) 0
  pub coefficient-none : (u : List ℕ) → length u ≡ B z → (i j : ℕ) → ((z.k ≤ i) × (z.k ≤ j)) ⊎ ((z.d ≤ i) ⊎ (z.d + z.r ≤ j)) → entry (grid z u) i j ≡ 0
  -- F(x, y) is the sum of all coefficients times x^i y^j; 00 to the power 0 is 01
  pub F-sum : (u : List ℕ) → length u ≡ B z → Bytes u → (x y : ℕ)
      → F z u x y ≡ sum z.d (λ i. sum (z.d + z.r) (λ j. mul (entry (grid z u) i j) (mul (power x i) (power y j))))
  -- byte t of stripe s is byte s × B + t of the file, and 00 past its end
  pub stripe-length : (file : List ℕ) (s : ℕ) → length (stripe z file s) ≡ B z
  pub stripe-place : (file : List ℕ) (s t : ℕ) → t < B z → get_or (stripe z file s) t 0 ≡ get_or file (s * B z + t) 0
  -- "Board i keeps F(x_i, y_i), .. , F(x_i, y_(i+d+r−1)), then F(x_(i+1), y_i), .. , F(x_(i+d−1), y_i), subscripts modulo n"
  pub share-f : (file : List ℕ) (i s t : ℕ) → s < S z file → t < z.d + z.r
      → get_or (share z xs file i) (s * α z + t) 0 ≡ symbol z xs file s i ((i + t) % z.n)
  pub share-g : (file : List ℕ) (i s t : ℕ) → s < S z file → 1 ≤ t → t < z.d
      → get_or (share z xs file i) (s * α z + (z.d + z.r + (t - 1))) 0 ≡ symbol z xs file s ((i + t) % z.n) i
  -- "These fix f_i(Y) = F(x_i, Y), of degree below d + r, and g_i(X) = F(X, y_i), of degree below d"
  pub fixed-f : (u : List ℕ) → length u ≡ B z → Bytes u → (i : ℕ) → i < z.n
      → (length (own_f z xs i (kept z xs u i)) ≡ z.d + z.r) × ((y : ℕ) → eval (own_f z xs i (kept z xs u i)) y ≡ F z u (point xs i) y)
  pub fixed-g : (u : List ℕ) → length u ≡ B z → Bytes u → (i : ℕ) → i < z.n
      → (length (own_g z xs i (kept z xs u i)) ≡ z.d) × ((x : ℕ) → eval (own_g z xs i (kept z xs u i)) x ≡ F z u x (point xs i))
  -- lengths, over any bytes
  pub share-length : (file : List ℕ) (i : ℕ) → length (share z xs file i) ≡ S z file * α z
  pub packet-length : (S j i : ℕ) (held : List ℕ) → length (helper_packet z xs S j i held) ≡ 2 * S
  pub stand-in-length : (S j i : ℕ) (held : List ℕ) → length (stand_in_packet z xs S j i held) ≡ S
  pub exchange-length : (S : ℕ) (helpers packets : List ℕ) (m : ℕ) → length (exchange_packet z xs S helpers packets m) ≡ S
  pub finished-length : (S i : ℕ) (helpers packets partners exchanges : List ℕ)
      → length (finished_share z xs S i helpers packets partners exchanges) ≡ S * α z
  pub decoded-length : (L : ℕ) (boards held : List ℕ) → length boards ≡ z.k → length (decoded_file z xs L boards held) ≡ L
  -- the bytes to one fresh board, from d helpers and r − 1 partners: S × (2d + r − 1)
  pub moved : (S i : ℕ) (helpers partners : List ℕ) (held theirs got : ℕ → List ℕ) → length helpers ≡ z.d → length partners ≡ z.r - 1
      → length (joined (λ j. helper_packet z xs S j i (held j)) helpers) + length (joined (λ m. exchange_packet z xs S (theirs m) (got m) i) partners)
      ≡ S * (2 * z.d + z.r - 1)
  -- bytes make bytes
  pub share-bytes : (file : List ℕ) → Bytes file → (i : ℕ) → Bytes (share z xs file i)
  pub packet-bytes : (S j i : ℕ) (held : List ℕ) → Bytes held → Bytes (helper_packet z xs S j i held)
  pub stand-in-bytes : (S j i : ℕ) (held : List ℕ) → Bytes held → Bytes (stand_in_packet z xs S j i held)
  pub exchange-bytes : (S : ℕ) (helpers packets : List ℕ) (m : ℕ) → Bytes packets → Bytes (exchange_packet z xs S helpers packets m)
  pub finished-bytes : (S i : ℕ) (helpers packets partners exchanges : List ℕ) → Bytes packets → Bytes exchanges
      → Bytes (finished_share z xs S i helpers packets partners exchanges)
  -- no missing symbol is taken as 00: in slices of the right length every byte that a fresh board uses is there
  pub received-place : (S b s t : ℕ) (packets : List ℕ) → length packets ≡ z.d * (2 * S) → b < 2 → s < S → t < z.d
      → (t * (2 * S) + (s * 2 + b) < length packets) × (get_or (received z S b s packets) t 0 ≡ get_or packets (t * (2 * S) + (s * 2 + b)) 0)
  pub exchanged-place : (S s t : ℕ) (packets : List ℕ) → length packets ≡ (z.r - 1) * S → s < S → t < z.r - 1
      → (t * S + s < length packets) × (get_or (exchanged z S s packets) t 0 ≡ get_or packets (t * S + s) 0)
  -- over any bytes, also such as no file could cause, every byte is that of the steps: f and g of a board through what it keeps at its neighbours
  pub own-f-any : (j : ℕ) (w : List ℕ) → own_f z xs j w ≡ interpolate (points xs (tabulate (z.d + z.r) (λ t. (j + t) % z.n))) (take (z.d + z.r) w)
  pub own-g-any : (j : ℕ) (w : List ℕ) → own_g z xs j w ≡ interpolate (points xs (tabulate z.d (λ t. (j + t) % z.n))) (take 1 w ++ drop (z.d + z.r) w)
  -- a helper's pair: its f, then its g, at the receiver's point
  pub packet-any : (S j i s : ℕ) (held : List ℕ) → s < S
      → (get_or (helper_packet z xs S j i held) (s * 2) 0 ≡ eval (own_f z xs j (piece (α z) s held)) (point xs i))
      × (get_or (helper_packet z xs S j i held) (s * 2 + 1) 0 ≡ eval (own_g z xs j (piece (α z) s held)) (point xs i))
  -- what fresh boards exchange: g at the receiver's point; and what a fresh board keeps of f and g
  pub exchange-any : (S : ℕ) (helpers packets : List ℕ) (m s : ℕ) → s < S
      → get_or (exchange_packet z xs S helpers packets m) s 0 ≡ eval (g_heard z xs S helpers packets s) (point xs m)
  pub finished-f-any : (S i : ℕ) (helpers packets partners exchanges : List ℕ) (s t : ℕ) → s < S → t < z.d + z.r
      → get_or (finished_share z xs S i helpers packets partners exchanges) (s * α z + t) 0
      ≡ eval (f_heard z xs S i helpers packets partners exchanges s) (point xs ((i + t) % z.n))
  pub finished-g-any : (S i : ℕ) (helpers packets partners exchanges : List ℕ) (s t : ℕ) → s < S → 1 ≤ t → t < z.d
      → get_or (finished_share z xs S i helpers packets partners exchanges) (s * α z + (z.d + z.r + (t - 1))) 0
      ≡ eval (g_heard z xs S helpers packets s) (point xs ((i + t) % z.n))
  -- a helper that holds its share sends F(x_j, y_i), then F(x_i, y_j)
  pub packet-true : (file : List ℕ) → Bytes file → (i j : ℕ) → j < z.n
      → helper_packet z xs (S z file) j i (share z xs file j) ≡ join (S z file) (λ s. symbol z xs file s j i ∷ symbol z xs file s i j ∷ [])
  -- a stand-in sends "the second bytes of its helper packet", over any bytes; one that holds its share sends F(x_i, y_j)
  pub stand-in-place : (S j i : ℕ) (held : List ℕ) (s : ℕ) → s < S
      → get_or (stand_in_packet z xs S j i held) s 0 ≡ get_or (helper_packet z xs S j i held) (s * 2 + 1) 0
  pub stand-in-true : (file : List ℕ) → Bytes file → (i j : ℕ) → j < z.n
      → stand_in_packet z xs (S z file) j i (share z xs file j) ≡ join (S z file) (λ s. symbol z xs file s i j ∷ [])
  -- a fresh board whose helpers hold their shares sends F(x_m, y_i)
  pub exchange-true : (file : List ℕ) → Bytes file → (helpers : List ℕ) → Named z z.d helpers → (i m : ℕ)
      → exchange_packet z xs (S z file) helpers (packets_from_shares z xs file helpers i) m ≡ join (S z file) (λ s. symbol z xs file s m i ∷ [])
  -- a fresh board whose helpers and partners' helpers hold their shares finishes with its share
  pub finished-true : (file : List ℕ) → Bytes file → (i : ℕ) (helpers partners : List ℕ) (theirs : ℕ → List ℕ)
      → Named z (z.d + z.r) (helpers ++ partners ++ (i ∷ [])) → length helpers ≡ z.d → All (λ m. Named z z.d (theirs m)) partners
      → finished_share z xs (S z file) i helpers (packets_from_shares z xs file helpers i) partners (exchanges_from_shares z xs file partners theirs i) ≡ share z xs file i
  -- and so it does with any partners, fresh boards or stand-ins, whose packets have F(x_i, y_m) for each stripe
  pub finished-by-symbols : (file : List ℕ) → Bytes file → (i : ℕ) (helpers partners : List ℕ) (sent : ℕ → List ℕ)
      → Named z (z.d + z.r) (helpers ++ partners ++ (i ∷ [])) → length helpers ≡ z.d
      → All (λ m. sent m ≡ join (S z file) (λ s. symbol z xs file s i m ∷ [])) partners
      → finished_share z xs (S z file) i helpers (packets_from_shares z xs file helpers i) partners (joined sent partners) ≡ share z xs file i
  -- "shares in the order of their list": the t-th is the share of the t-th board
  pub shares-length : (file boards : List ℕ) → length (shares z xs file boards) ≡ length boards * (S z file * α z)
  pub shares-place : (file boards : List ℕ) (t : ℕ) → t < length boards → piece (S z file * α z) t (shares z xs file boards) ≡ share z xs file (get_or boards t 0)
  -- the shares of any k different boards decode to the file, and no two files of one length have the same
  pub decodes : (file boards : List ℕ) → Bytes file → Named z z.k boards → decoded_file z xs (length file) boards (shares z xs file boards) ≡ file
  pub shares-fix : (file file' boards : List ℕ) → Bytes file → Bytes file' → Named z z.k boards
      → length file ≡ length file' → shares z xs file boards ≡ shares z xs file' boards → file ≡ file'
  -- reading answers f exactly when f has length L and these shares, and none exactly when there is no such file
  pub read-file : (L : ℕ) (boards held file : List ℕ) → Bytes held → Named z z.k boards
      → (read_file z xs L boards held ≡ some file) ↔ ((length file ≡ L) × Bytes file × (shares z xs file boards ≡ held))
  pub read_none : (L : ℕ) (boards held : List ℕ) → Bytes held → Named z z.k boards
      → (read_file z xs L boards held ≡ none) ↔ ((file : List ℕ) → length file ≡ L → Bytes file → shares z xs file boards ≡ held → ⊥)
  -- shares add like files
  pub shares-add : (file file' : List ℕ) → length file ≡ length file' → (i : ℕ)
      → share z xs (plus file file') i ≡ plus (share z xs file i) (share z xs file' i)

abbrev pub Demand2Claim : Type 0
Demand2Claim = (z : Sizes) (xs : List ℕ) → legal z ≡ true → DifferentPoints z xs → Demand2 z xs

-- document 01's points are such
abbrev pub Standard : Type 0
Standard = (z : Sizes) → legal z ≡ true → DifferentPoints z (standard z) × ((i : ℕ) → i < z.n → point (standard z) i ≡ i)
