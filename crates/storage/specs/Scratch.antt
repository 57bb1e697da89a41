-- Moves between scratch and the device, in pieces of 256 bytes: storage.rs `write_from_scratch` and `read_into_scratch`.
use Rattle.std.specs.Prelude.{cond, List, ◌++◌, ℕ, zero, suc, ◌+◌, eqb, length, take, drop}
use Rattle.storage.specs.World.{Lent, Dev, Told, told, Seen, seen}
use Rattle.storage.specs.Chip.{over}
use Rattle.storage.specs.Nor.{pages_of, sat_add}
use Rattle.storage.specs.Store.{good, writing, reading}

-- two counts one after the other
abbrev pub plus : ℕ → Told → Told
plus n t = told 0 (n + t.count) t.dev

-- the bytes go out in at most k pieces, up to the first that comes up short. (A piece that was taken lies below the capacity, so the
-- next address is never cut.)
unfoldable pub out_k : ℕ → Lent → ℕ → List ℕ → Dev → Told
out_k zero l off xs d = told 0 0 d
out_k (suc k) l off xs d =
    let t = writing l off (take 256 xs) d in
    cond (eqb t.count (length (take 256 xs))) (plus t.count (out_k k l (sat_add off t.count) (drop 256 xs) t.dev)) (told 0 t.count t.dev)

-- the device's bytes come into a room in at most k pieces, up to the first that comes up short
unfoldable pub in_k : ℕ → Lent → ℕ → List ℕ → Dev → Seen
in_k zero l off room d = seen (told 0 0 d) room
in_k (suc k) l off room d =
    let s = reading l off (take 256 room) d in
    let t = s.told in
    let r = in_k k l (sat_add off t.count) (drop 256 room) t.dev in
    cond (eqb t.count (length (take 256 room)))
    (seen (plus t.count r.told) (s.room ++ r.room))
    (seen (told 0 t.count t.dev) (s.room ++ drop 256 room))

-- the part of scratch that is moved: n bytes from a place on, as far as scratch goes
abbrev pub part : List ℕ → ℕ → ℕ → List ℕ
part scratch at n = take n (drop at scratch)

unfoldable pub from_scratch : Lent → ℕ → ℕ → ℕ → List ℕ → Dev → Told
from_scratch l off at n scratch d =
    cond (good l d) (out_k (pages_of 256 (length (part scratch at n))) l off (part scratch at n) d) (told 9 0 d)

unfoldable pub into_scratch : Lent → ℕ → ℕ → ℕ → List ℕ → Dev → Seen
into_scratch l off at n scratch d =
    let r = in_k (pages_of 256 (length (part scratch at n))) l off (part scratch at n) d in
    cond (good l d) (seen r.told (over at r.room scratch)) (seen (told 9 0 d) scratch)
