-- How a frame is gathered, case by case, as the code goes.
use Rattle.std.proofs.Common.{◌≡◌, ℕ, ◌+◌, ◌%◌, ◌^◌, ◌<◌, ◌≤◌, Bool, true, false, cond, eqb, ltb, leb, Option, None, Some, List, sym, refl, ap, ◌∙◌, mod-lt, mod-eq_of_lt, arith, le-ltb, lt-ltb, eq-eqb, leb-true}
use Rattle.wire.specs.Header.{parsed}
use Rattle.wire.specs.declared.header.Header.{Header}
use Rattle.engine.specs.declared.frame.Next.{Next}
use Rattle.engine.specs.declared.frame.Next.TheVariants.{Refused, Send, Total}
use Rattle.engine.specs.World.{Given, World, Out, out_of}
use Rattle.engine.specs.Frame.{next_by, next_of, ripens, heads, fills}

-- ---- what a header asks for

-- a frame that is taken has 16 to 8,208 bytes, and a stream less than 2^32
abbrev pub Taken : Next → Type 0
Taken Refused = Unit {0}
Taken (Send n) = n < 2 ^ 32
Taken (Total t) = (16 ≤ t) × (t ≤ 8208)

pub next_taken : (s : List ℕ) → Taken (next_of s)
next_taken s = go (parsed s)
  where
    by : (c n : ℕ) (a b : Bool) → leb n 8192 ≡ b → Taken (cond a (Send (n % 2 ^ 32)) (cond b (Total (16 + n)) Refused))
    by c n true b e = mod-lt n (omega arith)
    by c n false true e = let h = leb-true n 8192 e in (omega arith, omega arith)
    by c n false false e = tt

    go : (h : Option Header) → Taken (next_by h)
    go None = tt
    go (Some h) = by h.command h.length (eqb h.command 0x12) (leb h.length 8192) refl

-- SEND_FWC_DATA asks for a stream of as many bytes as its header says
pub next_send : (s : List ℕ) {h : Header} → Some h ≡ parsed s → h.command ≡ 0x12 → h.length < 2 ^ 32 → Send h.length ≡ next_of s
next_send s {h} p e k = rw (← p, eq-eqb h.command 0x12 e, mod-eq_of_lt k)

-- ---- a frame

module _ (g : Given) (w : World) where
  abbrev head : Out
  head = cond (ltb w.e.frame.len 16) (out_of 0 w) (heads g w)

  fills_is : (b : Bool) → eqb w.e.frame.total 0 ≡ b → fills g w ≡ cond b head (ripens g w)
  unfolding fills
  fills_is b e = ap (λ (b : Bool). cond b head (ripens g w)) e

  module _ (z : w.e.frame.total ≡ 0) where
    pub fills_more : w.e.frame.len < 16 → out_of 0 w ≡ fills g w
    fills_more h = ap (λ (b : Bool). cond b (out_of 0 w) (heads g w)) (sym (lt-ltb w.e.frame.len 16 h)) ∙ sym (fills_is true (eq-eqb w.e.frame.total 0 z))

    pub fills_head : 16 ≤ w.e.frame.len → {o : Out} → o ≡ heads g w → o ≡ fills g w
    fills_head h p = p ∙ ap (λ (b : Bool). cond b (out_of 0 w) (heads g w)) (sym (le-ltb w.e.frame.len 16 h)) ∙ sym (fills_is true (eq-eqb w.e.frame.total 0 z))
