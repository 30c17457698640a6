-- The laws of all rows.
use Rattle.std.proofs.Common.{true, ◌≡◌, ℕ, zero, List, Ok, Err, Some, refl, arith}
use Rattle.text_format.specs.declared.class.Class.{Class}
use Rattle.form_table.specs.declared.part.Part.{Part}
use Rattle.form_table.specs.declared.field.Field.{Field}
use Rattle.form_table.specs.declared.want.Opcode.{Opcode}
use Rattle.form_table.specs.declared.want.Opcode.TheVariants as opcodes
use Rattle.form_table.specs.declared.want.Want.{Want}
use Rattle.form_table.specs.Form.{tail, form}
use Rattle.form_table.specs.Writing.{written}
use Rattle.form_laws.specs.Fields.{fields_of}
use Rattle.form_laws.specs.Fits.{Fits}
use Rattle.form_laws.specs.Rows.{row_w, IsRow}
use Rattle.form_laws.proofs.RowLaws.{row_says, tail_says}
use Rattle.form_resolve.specs.declared.value.Value.{Value}
use Rattle.form_resolve.specs.Forms.{AreParts, all_mean}
use Rattle.form_resolve.specs.Resolving.{nothing_seen, resolved}
use Rattle.form_resolve.specs.FirstFaults.{IsFirstFault}
use Rattle.form_resolve.specs.Values.{AreFor}
use Rattle.form_resolve.specs.Saying.{nothing_told, Say}
use Rattle.form_resolve.proofs.FirstFaults.{first_fault}
use Rattle.form_resolve.proofs.Values.{values_fit}
use Rattle.form_resolve.proofs.Rounds.{said_resolves}
use Rattle.mlir_lex.specs.declared.fault.Fault.{Fault}
use Rattle.mlir_scope.specs.Names.{Entry}
use Rattle.mlir_scope.specs.Maps.{AliasShape, AreMaps}

pub fault_first : (al : List AliasShape) (env : List Entry) (ws : List Want) (ps : List Part) (e : Fault) → all_mean ws zero zero ≡ true → AreParts ws zero ps → resolved al env ws zero nothing_seen ps ≡ Err e → IsFirstFault al env ws zero nothing_seen ps e
fault_first al env ws ps e m i h = first_fault al env ws zero zero nothing_seen ps e (record { known = tt; many = omega arith }) i m h

pub row_means : (o : Opcode) → all_mean (form o) zero zero ≡ true
row_means opcodes.Constant = refl
row_means opcodes.Empty = refl
row_means opcodes.ExtractSlice = refl
row_means opcodes.Generic = refl
row_means opcodes.Fill = refl
row_means opcodes.Matmul = refl
row_means opcodes.BatchMatmul = refl
row_means opcodes.Transpose = refl
row_means opcodes.Broadcast = refl

pub tail_means : (o : Opcode) → all_mean (tail o) zero zero ≡ true
tail_means opcodes.Generic = refl
tail_means opcodes.Constant = refl
tail_means opcodes.Empty = refl
tail_means opcodes.ExtractSlice = refl
tail_means opcodes.Fill = refl
tail_means opcodes.Matmul = refl
tail_means opcodes.BatchMatmul = refl
tail_means opcodes.Transpose = refl
tail_means opcodes.Broadcast = refl

pub values_for : (al : List AliasShape) (env : List Entry) (ws : List Want) (ps : List Part) (vs : List Value) → AreMaps al → resolved al env ws zero nothing_seen ps ≡ Ok vs → AreFor ws zero zero vs
values_for al env ws ps vs m h = values_fit al env m ws zero nothing_seen ps vs (omega arith) h

pub said : (al : List AliasShape) (env : List Entry) (ws : List Want) (ps : List Part) (fs : List Field) (vs : List Value) → Say al env ws zero nothing_told fs vs → fields_of ws zero ps ≡ Some fs → resolved al env ws zero nothing_seen ps ≡ Ok vs
said al env ws ps fs vs s h = said_resolves al env ws zero nothing_told nothing_seen ps fs vs (record { names = refl; count = refl; none_missing = refl }) h s

-- what is written is resolved to what was written
pub row_resolves : (al : List AliasShape) (env : List Entry) (c : Class) (name : List ℕ) (o : Opcode) (fs : List Field) (vs : List Value) → IsRow c name o fs → Say al env (form o) zero nothing_told fs vs
    → (at : ℕ) → resolved al env (form o) zero nothing_seen ((row_w c name o fs).tree at).parts ≡ Ok vs
row_resolves al env c name o fs vs r s at = said al env (form o) ((row_w c name o fs).tree at).parts fs vs s (row_says c name o fs r at)

pub tail_resolves : (al : List AliasShape) (env : List Entry) (o : Opcode) (fs : List Field) (vs : List Value) → Fits (tail o) zero fs → Say al env (tail o) zero nothing_told fs vs
    → (at : ℕ) → resolved al env (tail o) zero nothing_seen ((written (tail o) zero fs).tree at) ≡ Ok vs
tail_resolves al env o fs vs f s at = said al env (tail o) ((written (tail o) zero fs).tree at) fs vs s (tail_says o fs f at)
