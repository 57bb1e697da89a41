-- A whole frame is executed: protocol.rs `execute_inner` (01, 'Frame rules', rows 1c to 1e). The commands stand in four groups, by
-- what they touch.
use Rattle.std.specs.Prelude.{◌≡◌, ℕ, ◌+◌, ◌≤◌, cond, not, ◌||◌, List, [], ◌∷◌, length, take, drop, ◌==◌, nat_le, Option, None, Some}
use Rattle.storage.specs.Open.{one_of}
use Rattle.wire.specs.Header.{parsed}
use Rattle.wire.specs.declared.header.Header.{Header}
use Rattle.engine.specs.declared.types.Engine.{Engine}
use Rattle.engine.specs.declared.exec.Group.{Group}
use Rattle.engine.specs.declared.exec.Group.TheVariants.{Memory, Shell, Storage, Plain}
use Rattle.engine.specs.World.{Given, World, with_flags, emptied, at_e, at_scratch, Out, out_of}
use Rattle.engine.specs.Reply.{Ran, ran, ends}
use Rattle.engine.specs.Command.{is_query, plain, Wrote, read_of, write_of}
use Rattle.engine.specs.Storing.{end_upgrade, crc_query, read_fwc, erase_storage, set_meta}
use Rattle.engine.specs.Running.{shell}

-- ---- the commands by number

-- READ and WRITE touch scratch, RUN_SHELL_STR scratch and storage, five more the storage, all others the reply alone
abbrev pub group_of : ℕ → Group
group_of c =
    cond (one_of (0x02 ∷ 0x03 ∷ []) c) Memory
    (cond (c == 0x05) Shell
    (cond (one_of (0x0B ∷ 0x10 ∷ 0x13 ∷ 0x18 ∷ 0x1B ∷ []) c) Storage
    Plain))

abbrev pub wrote_by : World → Wrote → Ran
wrote_by w r = ran r.answer (at_scratch r.scratch w)

unfoldable pub memory : ℕ → List ℕ → World → Ran
memory c bytes w =
    cond (c == 0x02) (wrote_by w (write_of w.e.base w.scratch bytes)) (ran (read_of w.e.base w.scratch bytes) w)

unfoldable pub storing : Given → ℕ → List ℕ → World → Ran
storing g c bytes w =
    cond (c == 0x0B) (end_upgrade g.lent w)
    (cond (c == 0x10) (set_meta g.lent g.lists bytes w)
    (cond (c == 0x13) (crc_query g.lent w)
    (cond (c == 0x18) (read_fwc g.lent bytes w)
    (erase_storage g.lent bytes w))))

abbrev pub runs_by : Given → ℕ → List ℕ → World → Group → Ran
runs_by g c bytes w Memory = memory c bytes w
runs_by g c bytes w Shell = shell g.lent bytes w
runs_by g c bytes w Storage = storing g c bytes w
runs_by g c bytes w Plain = ran (plain c w.e g.table) w

unfoldable pub runs : Given → ℕ → List ℕ → World → Ran
runs g c bytes w = runs_by g c bytes w (group_of c)

-- ---- a frame

-- its header and its data, or none where it is cut
abbrev pub order_by : List ℕ → Option Header → Option (ℕ × ℕ)
order_by frame None = None
order_by frame (Some h) = cond (nat_le (16 + h.length) (length frame)) (Some (h.command, h.length)) None

abbrev pub order_of : List ℕ → Option (ℕ × ℕ)
order_of frame = order_by frame (parsed frame)

-- a frame asks for a command on these bytes
pub record IsOrder (frame : List ℕ) (command : ℕ) (bytes : List ℕ) : Type 0 where
  pub asked : order_of frame ≡ Some (command, length bytes)
  pub whole : 16 + length bytes ≤ length frame
  pub within : bytes ≡ take (length bytes) (drop 16 frame)

-- a command that does not only look raises `host_upgrading`; the request is emptied
abbrev pub begun : ℕ → Engine → Engine
begun c e = emptied (with_flags (e.upgrading || not (is_query c)) e.asked e)

-- a command is run on its data and answered
abbrev pub answered : ℕ → Ran → Out
answered c r = ends c r.answer r.w

abbrev pub performed : Given → ℕ → List ℕ → World → Out
performed g c bytes w = answered c (runs g c bytes (at_e (begun c w.e) w))

unfoldable pub performs : Given → ℕ → ℕ → World → Out
performs g c n w = answered c (runs g c (take n (drop 16 w.request)) (at_e (begun c w.e) w))

abbrev pub exec_by : Given → World → Option (ℕ × ℕ) → Out
exec_by g w None = out_of 1 (at_e (emptied w.e) w)
exec_by g w (Some (c, n)) = performs g c n w

unfoldable pub execs : Given → World → Out
execs g w = exec_by g w (order_of (take w.e.frame.total w.request))
