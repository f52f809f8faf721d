-- The refusal for each fault, and which refusals a command may end with.
use Rattle.std.specs.Prelude.{◌≡◌, ◌⊎◌, ℕ, Result, Ok, Err, ⊤}
use Rattle.gateway.specs.declared.fault.GatewayFault.{GatewayFault}
use Rattle.gateway.specs.declared.fault.GatewayFault.TheVariants as gateway_fault
use Rattle.snapshot.specs.declared.fault.OpenFault.{OpenFault}
use Rattle.snapshot.specs.declared.fault.OpenFault.TheVariants as open_fault
use Rattle.onlooker.specs.declared.fault.LookFault.{LookFault}
use Rattle.onlooker.specs.declared.fault.LookFault.TheVariants as look_fault
use Rattle.socket_edge.specs.declared.fault.EdgeFault.{EdgeFault}
use Rattle.socket_edge.specs.declared.fault.EdgeFault.TheVariants as edge_fault
use Rattle.refusals.specs.Words.{IsOfPath, IsOfPrinting}
use Rattle.refusals.specs.declared.refusal.Refusal.{Refusal}
use Rattle.refusals.specs.declared.refusal.Refusal.TheVariants as refusal

-- a gateway that holds too many answers has no room either
abbrev pub gateway_refusal : GatewayFault → Refusal
gateway_refusal gateway_fault.Reopen = refusal.Reopen
gateway_refusal gateway_fault.NumbersOut = refusal.NumbersOut
gateway_refusal gateway_fault.HeldFull = refusal.Full
gateway_refusal gateway_fault.Full = refusal.Full
gateway_refusal gateway_fault.NoMemory = refusal.NoMemory
gateway_refusal gateway_fault.Device = refusal.Device
gateway_refusal gateway_fault.Generations = refusal.Generations

abbrev pub opening_refusal : OpenFault → Refusal
opening_refusal open_fault.Device = refusal.Device
opening_refusal open_fault.Damaged = refusal.Damaged
opening_refusal open_fault.ConfigDiffers = refusal.ConfigDiffers
opening_refusal open_fault.Generations = refusal.Generations
opening_refusal open_fault.NoMemory = refusal.NoMemory

-- of a look at files that another natgw may be serving
abbrev pub look_refusal : LookFault → Refusal
look_refusal (look_fault.File file error) = refusal.File
look_refusal look_fault.NoMemory = refusal.NoMemory
look_refusal look_fault.Changing = refusal.File
look_refusal look_fault.Damaged = refusal.Damaged
look_refusal (look_fault.Differs stored) = refusal.ConfigDiffers

abbrev pub edge_refusal : EdgeFault → Refusal
edge_refusal edge_fault.BadKind = refusal.BadKind
edge_refusal edge_fault.BadInterface = refusal.BadInterface
edge_refusal edge_fault.TooLong = refusal.TooLong
edge_refusal edge_fault.Truncated = refusal.Truncated
edge_refusal edge_fault.Input = refusal.Input
edge_refusal edge_fault.Output = refusal.Output
edge_refusal (edge_fault.Gateway fault) = gateway_refusal fault

-- a run that ended well is told as that, and a fault by its refusal
abbrev pub EndIsToldAs : Result ℕ EdgeFault → Result (Unit {0}) Refusal → Type 0
EndIsToldAs (Ok count) (Ok done) = Unit {0}
EndIsToldAs (Ok count) (Err r) = ⊥
EndIsToldAs (Err fault) (Ok done) = ⊥
EndIsToldAs (Err fault) (Err r) = r ≡ edge_refusal fault

-- the gateway has failed, and not what came in or went out
abbrev pub IsOfGateway : EdgeFault → Type 0
IsOfGateway (edge_fault.Gateway fault) = ⊤
IsOfGateway fault = ⊥

-- what may be the matter with the files of a directory
abbrev pub IsOfFiles : Refusal → Type 0
IsOfFiles r = IsOfPath r ⊎ ((fault : OpenFault) × (r ≡ opening_refusal fault))

-- what may end a stream of requests
abbrev pub IsOfStream : Refusal → Type 0
IsOfStream r = (fault : EdgeFault) × (r ≡ edge_refusal fault)

-- what may end the serving of clients: the socket or the gateway
abbrev pub IsOfServing : Refusal → Type 0
IsOfServing r = IsOfPath r ⊎ ((fault : GatewayFault) × (r ≡ gateway_refusal fault))

-- what may end a loop: these, or that the answers can't be printed
abbrev pub IsOfLooping : Refusal → Type 0
IsOfLooping r = IsOfServing r ⊎ (r ≡ refusal.Output)

-- what may be the matter where a gateway is opened, and its file made anew
abbrev pub IsOfOpening : Refusal → Type 0
IsOfOpening r = IsOfFiles r ⊎ ((fault : GatewayFault) × (r ≡ gateway_refusal fault))

-- what may be the matter with a look at files
abbrev pub IsOfLook : Refusal → Type 0
IsOfLook r = IsOfPrinting r ⊎ ((fault : LookFault) × (r ≡ look_refusal fault))
