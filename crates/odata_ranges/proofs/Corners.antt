-- A product and a quotient lie between those of the bounds.
use Rattle.odata_ranges.proofs.Common.{◌≢◌, ◌⊎◌, inl, inr, ℕ, zero, suc, ◌+◌, ◌*◌, ◌/◌, ◌<◌, ◌≤◌, ℤ, pos, negsuc, ◌*ℤ◌, ◌<ℤ◌, ◌≤ℤ◌, arith, refl, int_div, div-mul-le_self, le-div_iff_mul-le, mul-le-mul_left, mul-le-mul_right, ints}
use borrow.Author.Differences.{up, down}

-- between the two, whichever is the greater
abbrev pub Between : ℤ → ℤ → ℤ → Type 0
Between p x q = ((p ≤ℤ x) × (x ≤ℤ q)) ⊎ ((q ≤ℤ x) × (x ≤ℤ p))

pub within_both : (low high p x q : ℤ) → Between p x q → low ≤ℤ p → low ≤ℤ q → p ≤ℤ high → q ≤ℤ high → (low ≤ℤ x) × (x ≤ℤ high)
within_both low high p x q (inl b) lp lq ph qh = (omega (arith, ints), omega (arith, ints))
within_both low high p x q (inr b) lp lq ph qh = (omega (arith, ints), omega (arith, ints))

-- ---- products

times_above : (a b : ℤ) (n : ℕ) → a ≤ℤ b → (a *ℤ pos n) ≤ℤ (b *ℤ pos n)
times_above a b n le =
    let s : up a + down b ≤ up b + down a = omega (arith, ints) in
    let t : (up a + down b) * n ≤ (up b + down a) * n = mul-le-mul_right n s in
    omega (arith, ints)

times_below : (a b : ℤ) (n : ℕ) → a ≤ℤ b → (b *ℤ negsuc n) ≤ℤ (a *ℤ negsuc n)
times_below a b n le =
    let s : up a + down b ≤ up b + down a = omega (arith, ints) in
    let t : (up a + down b) * suc n ≤ (up b + down a) * suc n = mul-le-mul_right (suc n) s in
    omega (arith, ints)

above_times : (n : ℕ) (a b : ℤ) → a ≤ℤ b → (pos n *ℤ a) ≤ℤ (pos n *ℤ b)
above_times n a b le =
    let s : up a + down b ≤ up b + down a = omega (arith, ints) in
    let t : n * (up a + down b) ≤ n * (up b + down a) = mul-le-mul_left n s in
    omega (arith, ints)

below_times : (n : ℕ) (a b : ℤ) → a ≤ℤ b → (negsuc n *ℤ b) ≤ℤ (negsuc n *ℤ a)
below_times n a b le =
    let s : up a + down b ≤ up b + down a = omega (arith, ints) in
    let t : suc n * (up a + down b) ≤ suc n * (up b + down a) = mul-le-mul_left (suc n) s in
    omega (arith, ints)

left_between : (l a h b : ℤ) → l ≤ℤ a → a ≤ℤ h → Between (l *ℤ b) (a *ℤ b) (h *ℤ b)
left_between l a h (pos n) la ah = inl (times_above l a n la, times_above a h n ah)
left_between l a h (negsuc n) la ah = inr (times_below a h n ah, times_below l a n la)

right_between : (a m b k : ℤ) → m ≤ℤ b → b ≤ℤ k → Between (a *ℤ m) (a *ℤ b) (a *ℤ k)
right_between (pos n) m b k mb bk = inl (above_times n m b mb, above_times n b k bk)
right_between (negsuc n) m b k mb bk = inr (below_times n b k bk, below_times n m b mb)

pub product_between : (low high l a h m b k : ℤ) → l ≤ℤ a → a ≤ℤ h → m ≤ℤ b → b ≤ℤ k
    → (low ≤ℤ (l *ℤ m)) × (low ≤ℤ (l *ℤ k)) × (low ≤ℤ (h *ℤ m)) × (low ≤ℤ (h *ℤ k))
    → ((l *ℤ m) ≤ℤ high) × ((l *ℤ k) ≤ℤ high) × ((h *ℤ m) ≤ℤ high) × ((h *ℤ k) ≤ℤ high)
    → (low ≤ℤ (a *ℤ b)) × ((a *ℤ b) ≤ℤ high)
product_between low high l a h m b k la ah mb bk lows highs =
    let first = within_both low high (l *ℤ m) (l *ℤ b) (l *ℤ k) (right_between l m b k mb bk) lows.0 lows.1 highs.0 highs.1 in
    let last = within_both low high (h *ℤ m) (h *ℤ b) (h *ℤ k) (right_between h m b k mb bk) lows.2 lows.3 highs.2 highs.3 in
    within_both low high (l *ℤ b) (a *ℤ b) (h *ℤ b) (left_between l a h b la ah) first.0 last.0 first.1 last.1

-- ---- quotients

div_up : (m n k : ℕ) → 0 < k → m ≤ n → m / k ≤ n / k
div_up m n k above le =
    let t : m / k * k ≤ n = omega (arith, div-mul-le_self m k) in
    (le-div_iff_mul-le {k = k} {x = m / k} {y = n} above).1 t

div_down : (n b c : ℕ) → 0 < b → b ≤ c → n / c ≤ n / b
div_down n b c above le =
    let s : n / c * b ≤ n / c * c = mul-le-mul_left (n / c) le in
    let t : n / c * b ≤ n = omega (arith, div-mul-le_self n c) in
    (le-div_iff_mul-le {k = b} {x = n / c} {y = n} above).1 t

by_above : (x y : ℤ) (n : ℕ) → 0 < n → x ≤ℤ y → int_div x (pos n) ≤ℤ int_div y (pos n)
by_above (pos x) (pos y) n above le = let t = div_up x y n above (omega (arith, ints)) in omega (arith, ints)
by_above (negsuc x) (pos y) n above le = omega (arith, ints)
by_above (negsuc x) (negsuc y) n above le = let t = div_up (suc y) (suc x) n above (omega (arith, ints)) in omega (arith, ints)
by_above (pos x) (negsuc y) n above le = absurd (omega (arith, ints))

by_below : (x y : ℤ) (n : ℕ) → x ≤ℤ y → int_div y (negsuc n) ≤ℤ int_div x (negsuc n)
by_below (pos x) (pos y) n le = let t = div_up x y (suc n) (omega arith) (omega (arith, ints)) in omega (arith, ints)
by_below (negsuc x) (pos y) n le = omega (arith, ints)
by_below (negsuc x) (negsuc y) n le = let t = div_up (suc y) (suc x) (suc n) (omega arith) (omega (arith, ints)) in omega (arith, ints)
by_below (pos x) (negsuc y) n le = absurd (omega (arith, ints))

divided_between : (l a h b : ℤ) → b ≢ pos 0 → l ≤ℤ a → a ≤ℤ h → Between (int_div l b) (int_div a b) (int_div h b)
divided_between l a h (pos zero) other la ah = absurd (other refl)
divided_between l a h (pos (suc n)) other la ah = inl (by_above l a (suc n) (omega arith) la, by_above a h (suc n) (omega arith) ah)
divided_between l a h (negsuc n) other la ah = inr (by_below a h n ah, by_below l a n la)

over_above : (a : ℤ) (m b k : ℕ) → 0 < m → m ≤ b → b ≤ k → Between (int_div a (pos m)) (int_div a (pos b)) (int_div a (pos k))
over_above (pos x) m b k above mb bk =
    let s = div_down x b k (omega arith) bk in
    let t = div_down x m b above mb in
    inr (omega (arith, ints), omega (arith, ints))
over_above (negsuc x) m b k above mb bk =
    let s = div_down (suc x) b k (omega arith) bk in
    let t = div_down (suc x) m b above mb in
    inl (omega (arith, ints), omega (arith, ints))

over_below : (a : ℤ) (m b k : ℕ) → k ≤ b → b ≤ m → Between (int_div a (negsuc m)) (int_div a (negsuc b)) (int_div a (negsuc k))
over_below (pos x) m b k kb bm =
    let s = div_down x (suc k) (suc b) (omega arith) (omega arith) in
    let t = div_down x (suc b) (suc m) (omega arith) (omega arith) in
    inr (omega (arith, ints), omega (arith, ints))
over_below (negsuc x) m b k kb bm =
    let s = div_down (suc x) (suc k) (suc b) (omega arith) (omega arith) in
    let t = div_down (suc x) (suc b) (suc m) (omega arith) (omega arith) in
    inl (omega (arith, ints), omega (arith, ints))

above_between : (a m b k : ℤ) → pos 0 <ℤ m → m ≤ℤ b → b ≤ℤ k → Between (int_div a m) (int_div a b) (int_div a k)
above_between a (pos m) (pos b) (pos k) above mb bk = over_above a m b k (omega (arith, ints)) (omega (arith, ints)) (omega (arith, ints))
above_between a _ _ _ above mb bk = absurd (omega (arith, ints))

below_between : (a m b k : ℤ) → k <ℤ pos 0 → m ≤ℤ b → b ≤ℤ k → Between (int_div a m) (int_div a b) (int_div a k)
below_between a (negsuc m) (negsuc b) (negsuc k) below mb bk = over_below a m b k (omega (arith, ints)) (omega (arith, ints))
below_between a _ _ _ below mb bk = absurd (omega (arith, ints))

over_between : (a m b k : ℤ) → (pos 0 <ℤ m) ⊎ (k <ℤ pos 0) → m ≤ℤ b → b ≤ℤ k → Between (int_div a m) (int_div a b) (int_div a k)
over_between a m b k (inl above) mb bk = above_between a m b k above mb bk
over_between a m b k (inr below) mb bk = below_between a m b k below mb bk

pub quotient_between : (low high l a h m b k : ℤ) → (pos 0 <ℤ m) ⊎ (k <ℤ pos 0) → b ≢ pos 0 → l ≤ℤ a → a ≤ℤ h → m ≤ℤ b → b ≤ℤ k
    → (low ≤ℤ int_div l m) × (low ≤ℤ int_div l k) × (low ≤ℤ int_div h m) × (low ≤ℤ int_div h k)
    → (int_div l m ≤ℤ high) × (int_div l k ≤ℤ high) × (int_div h m ≤ℤ high) × (int_div h k ≤ℤ high)
    → (low ≤ℤ int_div a b) × (int_div a b ≤ℤ high)
quotient_between low high l a h m b k apart other la ah mb bk lows highs =
    let first = within_both low high (int_div l m) (int_div l b) (int_div l k) (over_between l m b k apart mb bk) lows.0 lows.1 highs.0 highs.1 in
    let last = within_both low high (int_div h m) (int_div h b) (int_div h k) (over_between h m b k apart mb bk) lows.2 lows.3 highs.2 highs.3 in
    within_both low high (int_div l b) (int_div a b) (int_div h b) (divided_between l a h b other la ah) first.0 last.0 first.1 last.1
