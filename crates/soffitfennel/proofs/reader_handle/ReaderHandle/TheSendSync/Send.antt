-- A handle goes to another thread with its reader.
use Rattle.std.proofs.Common.{Option, None, Some}
use mir.Raw.{raw}
use base.Shift.{Keyless}
use denote.Memory.{lone}
use denote.RawPtr.{Ptr}
use denote.Struct.Struct.{exits_of}
use denote.Struct.Owning.{shape, fields, to}
use denote.Param.Send.{IsSend, AllSend, owning_send, struct_send, sendable}
use Rattle.std.proofs.Crossing as heap
use Rattle.std.specs.declared.alloc.Global.{Global}
use Rattle.std.specs.contracts.impls.GlobalAllocator.TheImpl.{ghosts}
use Rattle.std_alloc.proofs.SendSync.{quiet, lies}
use Rattle.std.proofs.alloc.Global.TheSendSync as handle
use Rattle.soffitfennel.specs.OwningParts.{handle_owns}
use Rattle.t1_link.specs.contracts.reader_end.ReaderEnd as reader
use Rattle.t1_link.proofs.reader_end.ReaderEnd.TheSendSync.{the_send as reader_send}
use Rattle.soffitfennel.specs.contracts.reader_handle.ReaderHandle.{the_row, the_type}

reader_keyless : (a : Global) (p : Ptr) (x : Option reader.the_row.Denot)
    → Keyless (handle_owns (ghosts.dealloc_token a) reader.the_row p x)
reader_keyless a p None = λ e. tt
reader_keyless a p (Some x) =
    (lies reader.the_row reader_send p x, heap.frees.frees a (raw (lone reader.the_row.mir)) p)

pub send : IsSend the_row
send =
    let all : AllSend (fields the_type) = (search sendable, (handle.the_field_send, tt)) in
    owning_send the_type all (λ d. reader_keyless d.alloc d.at d.value)
    (λ k. quiet (to the_type) (exits_of k (fields the_type)) ((struct_send (shape the_type) all).leaving k))
