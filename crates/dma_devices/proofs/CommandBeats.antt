-- The beats of a command: there are 16, and the one at a place is the definition's.
use Rattle.std.proofs.Common.{◌≡◌, ◌<◌, length, sym, zero-add}
use Rattle.std.specs.Prelude.{Some, map, slice_get}
use Rattle.std.specs.List.{range_with_len}
use Rattle.std.proofs.lemmas.Option.{slice_get_read}
use Rattle.std.proofs.lemmas.List.FromFn.{length-map-range_with_len, get_or-map-range_with_len}
use Rattle.dma_devices.specs.declared.transfers.Command.{Command}
use Rattle.dma_devices.specs.DiskCommands.{transfer_at, transfers_of, beats_per_sector}

pub length_transfers : (command : Command) → length (transfers_of command) ≡ beats_per_sector
unfolding transfers_of
length_transfers command = length-map-range_with_len (transfer_at command) 0 beats_per_sector

pub next_transfer : (command : Command) → command.made < beats_per_sector → slice_get (transfers_of command) command.made ≡ Some (transfer_at command command.made)
unfolding transfers_of
next_transfer command left =
    slice_get_read (map (transfer_at command) (range_with_len 0 beats_per_sector)) beats_per_sector command.made (transfer_at command command.made)
    (sym (length-map-range_with_len (transfer_at command) 0 beats_per_sector)) left
    (sym (get_or-map-range_with_len (transfer_at command) 0 beats_per_sector command.made command.made (transfer_at command command.made) left (zero-add command.made)))
