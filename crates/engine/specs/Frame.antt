-- Gathering a frame: what its header asks for, and what happens once its bytes are there (01, 'Frame rules', rows 1a and 1b;
-- protocol.rs `transport_write`).
use Rattle.std.specs.Prelude.{ℕ, ◌+◌, ◌%◌, ◌^◌, cond, List, length, ◌==◌, nat_le, nat_lt, Option, None, Some}
use Rattle.std.proofs.lemmas.List.Edits.{sets}
use Rattle.wire.specs.Header.{parsed}
use Rattle.wire.specs.declared.header.Header.{Header}
use Rattle.engine.specs.declared.frame.Next.{Next}
use Rattle.engine.specs.declared.frame.Next.TheVariants.{Refused, Send, Total}
use Rattle.engine.specs.World.{Given, World, world, with_frame, emptied, at_e, Out, out_of}
use Rattle.engine.specs.Exec.{execs}
use Rattle.engine.specs.Stream.{begins}

-- ---- the header

-- what an accepted header asks for: SEND_FWC_DATA with the length in its four bytes, or a frame of at most 8,208 bytes. All others are
-- refused: 1a where `parsed` is None, 1b where the frame is too long
abbrev pub next_by : Option Header → Next
next_by None = Refused
next_by (Some h) = cond (h.command == 0x12) (Send (h.length % 2 ^ 32)) (cond (nat_le h.length 8192) (Total (16 + h.length)) Refused)

abbrev pub next_of : List ℕ → Next
next_of request = next_by (parsed request)

-- a refused header, 1a or 1b: the request is emptied and all else kept
abbrev pub refuses : World → Out
refuses w = out_of 1 (at_e (emptied w.e) w)

-- a frame that is whole is executed
unfoldable pub ripens : Given → World → Out
ripens g w = cond (nat_lt w.e.frame.len w.e.frame.total) (out_of 0 w) (execs g w)

abbrev pub framed : ℕ → ℕ → World → World
framed len total w = at_e (with_frame (record { len = len; total = total }) w.e) w

abbrev pub headed_by : Given → World → Next → Out
headed_by g w Refused = refuses w
headed_by g w (Send n) = begins g.lent n (at_e (emptied w.e) w)
headed_by g w (Total t) = ripens g (framed 16 t w)

unfoldable pub heads : Given → World → Out
heads g w = headed_by g w (next_of w.request)

-- ---- a piece of a frame

-- the request with a piece behind what was gathered
abbrev pub grown : World → List ℕ → World
grown w p =
    world (with_frame (record { len = w.e.frame.len + length p; total = w.e.frame.total }) w.e) (sets w.request w.e.frame.len p)
    w.reply w.chip w.buffer w.scratch

unfoldable pub fills : Given → World → Out
fills g w = cond (w.e.frame.total == 0) (cond (nat_lt w.e.frame.len 16) (out_of 0 w) (heads g w)) (ripens g w)

unfoldable pub gathers : Given → List ℕ → World → Out
gathers g p w = fills g (grown w p)
