-- SEND_FWC_DATA: taken at its header, then its payload piece by piece, then one reply (01, 'Frame rules'; protocol.rs
-- `begin_fwc_stream`, `write_fwc_payload`, `finish_fwc_stream`).
use Rattle.std.specs.Prelude.{ℕ, ◌+◌, ◌-◌, ◌^◌, ◌<◌, ◌≤◌, cond, List, length, ◌==◌}
use Rattle.wire.specs.Crc.{crc_update}
use Rattle.storage.specs.World.{Lent, Told}
use Rattle.storage.specs.Store.{flushing, writing}
use Rattle.engine.specs.declared.types.Update.{Update}
use Rattle.engine.specs.World.{World, with_up, at_e, dev_of, at_dev, Out, out_of}
use Rattle.engine.specs.Reply.{whether, fail, replied, ends}

-- ---- a piece

-- the numbers of an update in bounds (01, 'In bounds')
abbrev pub UpFit : Update → Type 0
UpFit u = (u.written + u.left < 2 ^ 32) × (u.target ≤ 2 ^ 31)

-- a short storage write sets burn to 1
abbrev pub burn_by : ℕ → ℕ → ℕ → ℕ
burn_by old count n = cond (count == n) old (cond (old == 0) 1 old)

-- a piece of which count bytes were stored: all of it is counted, and goes into the checksum
abbrev pub taken : List ℕ → ℕ → Update → Update
taken piece count u =
    record {
      meta = u.meta;
      valid = u.valid;
      aimed = u.aimed;
      target = u.target;
      written = u.written + length piece;
      crc = crc_update u.crc piece;
      burn = burn_by u.burn count (length piece);
      run = u.run;
      left = u.left - length piece;
    }

abbrev pub fed_by : World → List ℕ → Told → World
fed_by w piece t = at_e (with_up (taken piece t.count w.e.up) (at_dev t.dev w).e) (at_dev t.dev w)

-- the piece goes to the target, where there is one
unfoldable pub fed : Lent → List ℕ → World → World
fed l piece w =
    cond w.e.up.aimed
    (fed_by w piece (writing l (w.e.up.target + w.e.up.written) piece (dev_of w)))
    (at_e (with_up (taken piece (length piece) w.e.up) w.e) w)

-- ---- the end

abbrev pub burnt : ℕ → Update → Update
burnt b u =
    record {
      meta = u.meta;
      valid = u.valid;
      aimed = u.aimed;
      target = u.target;
      written = u.written;
      crc = u.crc;
      burn = b;
      run = u.run;
      left = u.left;
    }

-- a flush if burn is 0; one that fails sets it to 1
abbrev pub settled_by : World → Told → World
settled_by w t = at_e (with_up (burnt (cond (t.status == 0) 0 1) w.e.up) (at_dev t.dev w).e) (at_dev t.dev w)

unfoldable pub settled : Lent → World → World
settled l w = cond (w.e.up.burn == 0) (settled_by w (flushing l (dev_of w))) w

-- the one reply: OK with no data, or a fail reply. The write goes on
abbrev pub said_of : World → Out
said_of w = out_of 0 (replied 0x12 (whether (w.e.up.burn == 0)) w)

unfoldable pub finishes : Lent → World → Out
finishes l w = said_of (settled l w)

abbrev pub streamed_by : Lent → World → Out
streamed_by l w = cond (w.e.up.left == 0) (finishes l w) (out_of 0 w)

unfoldable pub streams : Lent → List ℕ → World → Out
streams l piece w = streamed_by l (fed l piece w)

-- ---- the header

abbrev pub started : ℕ → Update → Update
started n u =
    record {
      meta = u.meta;
      valid = u.valid;
      aimed = u.aimed;
      target = u.target;
      written = 0;
      crc = 0;
      burn = 0;
      run = 0;
      left = n;
    }

-- with metadata the next n bytes are payload; without, a fail reply (1c)
unfoldable pub begins : Lent → ℕ → World → Out
begins l n w = cond w.e.up.valid (streamed_by l (at_e (with_up (started n w.e.up) w.e) w)) (ends 0x12 fail w)
