-- Records and record files as the code finds them.
pub mod RecordParts
