-- Of specs/Gives.antt: what a write answers and leaves, for each reason. It rests on Failures.antt beside this file, and stands here with it.
use Rattle.std.specs.Prelude.{◌≡◌, true, false, List, ◌++◌, ℕ, ◌≤◌, length, replicate}
use Rattle.std.proofs.Common.{arith}
use Rattle.wire.specs.Header.{reply_magic, header_of, request_of, parsed}
use Rattle.storage.specs.Open.{one_of}
use Rattle.engine.specs.World.{Given, World}
use Rattle.engine.specs.Reply.{unsupported, odd, status_by, reply_by}
use Rattle.engine.specs.Api.{fits, writes}
use Rattle.promises.specs.Frames.{Between}
use Rattle.promises.specs.Update.{waiting}
use Rattle.promises.specs.Why.{Why, Large, known}
use Rattle.promises.specs.Failures.{found}
use Rattle.promises.proofs.Failures.{answer_told, fail_told}
use Rattle.promises.specs.Gives.{why_fails, large_odd, unknown_unsupported, odd_length, unsupported_length}

-- between frames, a frame of a command on its data, which finds the world as `found` says
module _ (g : Given) (v : World) (f : fits g v ≡ true) (b : Between v.e) (h m : List ℕ) (n : length h ≡ 16) (c s : ℕ) (p : parsed h ≡ request_of c s (length m))
    (o : c ≡ 0x12 → ⊥) (t : length m ≤ 8192) where
  abbrev finds : World
  finds = found g v f b h m n c s p o t

  -- 1d, "executed command fails", and "A fail reply is a header with status 1 and no data": for each of its reasons the write returns 1, and
  -- that reply waits
  pub why_told : Why g c m finds → ((writes g v (h ++ m)).status ≡ 1) × (waiting (writes g v (h ++ m)).w ≡ header_of reply_magic c 1 0)
  unfolding reply_by
  why_told y = fail_told g v f b h m n c s p o t (why_fails g c m finds y)

  -- 1e, and "reply magic 0, command 1, status 0, length 0": the write returns 1, and that reply waits
  pub large_told : Large g c m finds → ((writes g v (h ++ m)).status ≡ 1) × (waiting (writes g v (h ++ m)).w ≡ header_of 0 1 0 0)
  unfolding status_by reply_by
  large_told y = answer_told g v f b h m n c s p o t odd (omega (arith, odd_length c)) (large_odd g c m finds y)

  -- "An unsupported command (also 0x01 and 0x0D) returns 0 with header status 1 and 108 zero bytes"
  pub unknown_told : one_of known c ≡ false → ((writes g v (h ++ m)).status ≡ 0) × (waiting (writes g v (h ++ m)).w ≡ header_of reply_magic c 1 108 ++ replicate 108 0)
  unfolding status_by reply_by
  unknown_told y = answer_told g v f b h m n c s p o t unsupported (omega (arith, unsupported_length c)) (unknown_unsupported g c m finds y)
