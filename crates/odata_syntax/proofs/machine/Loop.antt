-- The loop over the tokens.
use Rattle.std.proofs.Common.{◌≡◌, refl, ap, subst, sym, ◌∙◌, ℕ, ◌+◌, ◌≤◌, ◌<◌, List, [], ◌∷◌, ◌++◌, Bool, true, false, cond, length, take, drop, get_or, Some, arith, add-one, drop-cons}
use Rattle.std.proofs.lemmas.List.{map-append, take-append-drop, take_more}
use Rattle.odata_text.specs.declared.token.Token.{Token}
use Rattle.odata_text.specs.declared.token.TokenKind.{TokenKind}
use Rattle.odata_text.specs.TokenModel.{TokenModel, token_model, token_models}
use Rattle.odata_syntax.specs.declared.syntax_fault.SyntaxFault.{SyntaxFault}
use Rattle.odata_syntax.specs.Front.{IsShallow, close_count, closes, depth_limit, open_count, opens}
use Rattle.odata_syntax.specs.private.Machine.{Machine, run, step, start}
use Rattle.odata_syntax.specs.private.MachineView.{Refuses}
use Rattle.odata_syntax.specs.private.Stops.{IsOverfull, RefusesOneOf}
use Rattle.odata_syntax.proofs.machine.Run.{run-snoc}
use Rattle.odata_syntax.proofs.machine.Depth.{close_count-snoc, open_count-snoc, shallow-snoc, shallow-whole}

-- the tokens so far, and one more
models_more : (ts : List Token) (i : ℕ) (d : Token) → i < length ts → token_models (take (i + 1) ts) ≡ token_models (take i ts) ++ (token_model (get_or ts i d) ∷ [])
models_more ts i d h = ap token_models (take_more ts i d h) ∙ map-append token_model (take i ts) (get_or ts i d ∷ [])

pub taken_more : (ts : List Token) (i : ℕ) (d : Token) (m n : Machine) → i < length ts → run (token_models (take i ts)) start ≡ Some m → step m (token_model (get_or ts i d)) ≡ Some n → run (token_models (take (i + 1) ts)) start ≡ Some n
taken_more ts i d m n h so_far next =
    ap (λ k. run k start) (models_more ts i d h) ∙ run-snoc (token_models (take i ts)) (token_model (get_or ts i d)) start m so_far ∙ next

pub opens_more : (ts : List Token) (i : ℕ) (d : Token) → i < length ts → open_count (token_models (take (i + 1) ts)) ≡ open_count (token_models (take i ts)) + cond (opens (get_or ts i d).kind) 1 0
opens_more ts i d h = ap open_count (models_more ts i d h) ∙ open_count-snoc (token_models (take i ts)) (token_model (get_or ts i d))

pub closes_more : (ts : List Token) (i : ℕ) (d : Token) → i < length ts → close_count (token_models (take (i + 1) ts)) ≡ close_count (token_models (take i ts)) + cond (closes (get_or ts i d).kind) 1 0
closes_more ts i d h = ap close_count (models_more ts i d h) ∙ close_count-snoc (token_models (take i ts)) (token_model (get_or ts i d))

-- one more `(` at most
pub at_most_one : (b : Bool) → cond b 1 0 ≤ 1
at_most_one true = omega arith
at_most_one false = omega arith

-- a `)` and a `(` are not one token
pub room : (b c : Bool) (opened closed : ℕ) → opened ≤ closed + depth_limit → opened + cond b 1 0 ≤ (closed + cond c 1 0) + depth_limit → (b ≡ true → c ≡ false) → opened + cond b 1 0 ≤ closed + depth_limit
room true true opened closed h k apart = let no_such = apart refl in absurd (cc)
room true false opened closed h k apart = omega arith
room false c opened closed h k apart = omega arith

pub opens_no_close : (kind : TokenKind) → opens kind ≡ true → closes kind ≡ false
opens_no_close TokenKind.Close e = absurd (cc)
opens_no_close _ e = refl

pub shallow_more : (ts : List Token) (i : ℕ) (d : Token) → i < length ts → IsShallow (token_models (take i ts)) → open_count (token_models (take (i + 1) ts)) ≤ close_count (token_models (take (i + 1) ts)) + depth_limit → IsShallow (token_models (take (i + 1) ts))
shallow_more ts i d h s more =
    let p : TokenModel = token_model (get_or ts i d) in
    let opened = opens_more ts i d h in
    let closed = closes_more ts i d h in
    let here : open_count (token_models (take i ts)) + cond (opens p.kind) 1 0 ≤ (close_count (token_models (take i ts)) + cond (closes p.kind) 1 0) + depth_limit = omega arith in
    let fits = room (opens p.kind) (closes p.kind) (open_count (token_models (take i ts))) (close_count (token_models (take i ts))) (shallow-whole (token_models (take i ts)) s) here (opens_no_close p.kind) in
    subst (λ (k : List TokenModel). IsShallow k) (sym (models_more ts i d h)) (shallow-snoc (token_models (take i ts)) p s fits)

-- the tokens before a token, it and those after it
pub models_split : (ts : List Token) (i : ℕ) (d : Token) → i < length ts → token_models ts ≡ token_models (take i ts) ++ (token_model (get_or ts i d) ∷ token_models (drop (i + 1) ts))
models_split ts i d h =
    let tail : drop i ts ≡ get_or ts i d ∷ drop (i + 1) ts = rw add-one (drop-cons ts i d h) in
    let whole : token_models ts ≡ token_models (take i ts) ++ token_models (drop i ts) = ap token_models (sym (take-append-drop i ts)) ∙ map-append token_model (take i ts) (drop i ts) in
    whole ∙ ap (λ k. token_models (take i ts) ++ token_models k) tail

-- the machine stops at a token that it refuses
pub stuck_at : (ts : List Token) (i : ℕ) (d : Token) (m : Machine) (fault : SyntaxFault) → i < length ts → run (token_models (take i ts)) start ≡ Some m → IsShallow (token_models (take i ts)) → Refuses (step m (token_model (get_or ts i d))) (token_model (get_or ts i d)) fault → RefusesOneOf (token_models ts) fault
stuck_at ts i d m (SyntaxFault.Unexpected span) h so_far shallow refused =
    record {
      at = record {
        before = token_models (take i ts);
        token = token_model (get_or ts i d);
        behind = token_models (drop (i + 1) ts);
        split = models_split ts i d h;
        reached = m;
        takes = so_far;
        shallow = shallow;
        spanned = refused.0;
      };
      stuck = refused.1;
    }
stuck_at ts i d m (SyntaxFault.TooDeep span) h so_far shallow refused = absurd refused
stuck_at ts i d m SyntaxFault.Memory h so_far shallow refused = tt

-- the limit is passed by a `(` alone, and by one
pub one_too_many : (b c : Bool) (opened closed : ℕ) → opened ≤ closed + depth_limit → (closed + cond c 1 0) + depth_limit < opened + cond b 1 0 → (b ≡ true) × (opened ≡ closed + depth_limit)
one_too_many true true opened closed h k = absurd (omega arith)
one_too_many true false opened closed h k = (refl, omega arith)
one_too_many false true opened closed h k = absurd (omega arith)
one_too_many false false opened closed h k = absurd (omega arith)

pub overfull_at : (ts : List Token) (i : ℕ) (d : Token) (m n : Machine) → i < length ts → run (token_models (take i ts)) start ≡ Some m → IsShallow (token_models (take i ts)) → step m (token_model (get_or ts i d)) ≡ Some n → close_count (token_models (take (i + 1) ts)) + depth_limit < open_count (token_models (take (i + 1) ts)) → IsOverfull (token_models ts) (get_or ts i d).span
overfull_at ts i d m n h so_far shallow taken deep =
    let p : TokenModel = token_model (get_or ts i d) in
    let opened = opens_more ts i d h in
    let closed = closes_more ts i d h in
    let here : (close_count (token_models (take i ts)) + cond (closes p.kind) 1 0) + depth_limit < open_count (token_models (take i ts)) + cond (opens p.kind) 1 0 = omega arith in
    let facts = one_too_many (opens p.kind) (closes p.kind) (open_count (token_models (take i ts))) (close_count (token_models (take i ts))) (shallow-whole (token_models (take i ts)) shallow) here in
    record {
      at = record {
        before = token_models (take i ts);
        token = p;
        behind = token_models (drop (i + 1) ts);
        split = models_split ts i d h;
        reached = m;
        takes = so_far;
        shallow = shallow;
        spanned = record { start_is = refl; stop_is = refl };
      };
      next = n;
      taken = taken;
      opening = facts.0;
      full = facts.1;
    }

-- the loop's step
pub loop_more : (ts : List Token) (i : ℕ) (d : Token) (m n : Machine) (x y more_x more_y : ℕ) → i < length ts → run (token_models (take i ts)) start ≡ Some m → IsShallow (token_models (take i ts)) → x ≡ open_count (token_models (take i ts)) → y ≡ close_count (token_models (take i ts)) → x ≤ i → y ≤ i → step m (token_model (get_or ts i d)) ≡ Some n → more_x ≡ x + cond (opens (get_or ts i d).kind) 1 0 → more_y ≡ y + cond (closes (get_or ts i d).kind) 1 0 → more_x ≤ more_y + depth_limit → record { taken : run (token_models (take (i + 1) ts)) start ≡ Some n; shallow : IsShallow (token_models (take (i + 1) ts)); opened : more_x ≡ open_count (token_models (take (i + 1) ts)); closed : more_y ≡ close_count (token_models (take (i + 1) ts)); opens_within : more_x ≤ i + 1; closes_within : more_y ≤ i + 1 }
loop_more ts i d m n x y more_x more_y h so_far shallow is_opened is_closed opens_within closes_within taken is_x is_y fits =
    let more_opens = opens_more ts i d h in
    let more_closes = closes_more ts i d h in
    let one_x = at_most_one (opens (get_or ts i d).kind) in
    let one_y = at_most_one (closes (get_or ts i d).kind) in
    let all_opens : more_x ≡ open_count (token_models (take (i + 1) ts)) = omega arith in
    let all_closes : more_y ≡ close_count (token_models (take (i + 1) ts)) = omega arith in
    record {
      taken = taken_more ts i d m n h so_far taken;
      shallow = shallow_more ts i d h shallow (omega arith);
      opened = all_opens;
      closed = all_closes;
      opens_within = omega arith;
      closes_within = omega arith;
    }

-- and where it stops for the depth
pub loop_overfull : (ts : List Token) (i : ℕ) (d : Token) (m n : Machine) (opened closed more_opened more_closed : ℕ) → i < length ts → run (token_models (take i ts)) start ≡ Some m → IsShallow (token_models (take i ts)) → opened ≡ open_count (token_models (take i ts)) → closed ≡ close_count (token_models (take i ts)) → step m (token_model (get_or ts i d)) ≡ Some n → more_opened ≡ opened + cond (opens (get_or ts i d).kind) 1 0 → more_closed ≡ closed + cond (closes (get_or ts i d).kind) 1 0 → more_closed + depth_limit < more_opened → IsOverfull (token_models ts) (get_or ts i d).span
loop_overfull ts i d m n opened closed more_opened more_closed h so_far shallow is_opened is_closed taken is_more_opened is_more_closed deep =
    let more_opens = opens_more ts i d h in
    let more_closes = closes_more ts i d h in
    overfull_at ts i d m n h so_far shallow taken (omega arith)
