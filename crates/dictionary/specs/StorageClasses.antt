-- The storage classes (PS3.4 table B.5-1), and those that are retired (PS3.6 annex A), as `tools/storage-classes`
-- writes them.
use Rattle.std.specs.Prelude.{ℕ, Bool, true, false, List, [], ◌∷◌, codes}
use Rattle.std.specs.List.{flat_map}

-- a row of the table: the identifier, the keyword, and whether a directory has its instances in IMAGE records (PS3.3
-- section F.5)
pub record StorageRow : Type 0 where
  pub uid : List ℕ
  pub keyword : List ℕ
  pub is_image : Bool

-- rows 1 to 14 of the table of storage classes
unfoldable pub part_0 : List StorageRow
part_0 =
    record { uid = codes "1.2.840.10008.5.1.1.27"; keyword = codes "StoredPrintStorage"; is_image = false }
    ∷ record { uid = codes "1.2.840.10008.5.1.1.29"; keyword = codes "HardcopyGrayscaleImageStorage"; is_image = true }
    ∷ record { uid = codes "1.2.840.10008.5.1.1.30"; keyword = codes "HardcopyColorImageStorage"; is_image = true }
    ∷ record { uid = codes "1.2.840.10008.5.1.4.1.1.1"; keyword = codes "ComputedRadiographyImageStorage"; is_image = true }
    ∷ record { uid = codes "1.2.840.10008.5.1.4.1.1.1.1"; keyword = codes "DigitalXRayImageStorageForPresentation"; is_image = true }
    ∷ record { uid = codes "1.2.840.10008.5.1.4.1.1.1.1.1"; keyword = codes "DigitalXRayImageStorageForProcessing"; is_image = true }
    ∷ record { uid = codes "1.2.840.10008.5.1.4.1.1.1.2"; keyword = codes "DigitalMammographyXRayImageStorageForPresentation"; is_image = true }
    ∷ record { uid = codes "1.2.840.10008.5.1.4.1.1.1.2.1"; keyword = codes "DigitalMammographyXRayImageStorageForProcessing"; is_image = true }
    ∷ record { uid = codes "1.2.840.10008.5.1.4.1.1.1.3"; keyword = codes "DigitalIntraOralXRayImageStorageForPresentation"; is_image = true }
    ∷ record { uid = codes "1.2.840.10008.5.1.4.1.1.1.3.1"; keyword = codes "DigitalIntraOralXRayImageStorageForProcessing"; is_image = true }
    ∷ record { uid = codes "1.2.840.10008.5.1.4.1.1.2"; keyword = codes "CTImageStorage"; is_image = true }
    ∷ record { uid = codes "1.2.840.10008.5.1.4.1.1.2.1"; keyword = codes "EnhancedCTImageStorage"; is_image = true }
    ∷ record { uid = codes "1.2.840.10008.5.1.4.1.1.2.2"; keyword = codes "LegacyConvertedEnhancedCTImageStorage"; is_image = true }
    ∷ record { uid = codes "1.2.840.10008.5.1.4.1.1.3"; keyword = codes "UltrasoundMultiFrameImageStorageRetired"; is_image = true }
    ∷ []

-- rows 15 to 28 of the table of storage classes
unfoldable pub part_1 : List StorageRow
part_1 =
    record { uid = codes "1.2.840.10008.5.1.4.1.1.3.1"; keyword = codes "UltrasoundMultiFrameImageStorage"; is_image = true }
    ∷ record { uid = codes "1.2.840.10008.5.1.4.1.1.4"; keyword = codes "MRImageStorage"; is_image = true }
    ∷ record { uid = codes "1.2.840.10008.5.1.4.1.1.4.1"; keyword = codes "EnhancedMRImageStorage"; is_image = true }
    ∷ record { uid = codes "1.2.840.10008.5.1.4.1.1.4.2"; keyword = codes "MRSpectroscopyStorage"; is_image = false }
    ∷ record { uid = codes "1.2.840.10008.5.1.4.1.1.4.3"; keyword = codes "EnhancedMRColorImageStorage"; is_image = true }
    ∷ record { uid = codes "1.2.840.10008.5.1.4.1.1.4.4"; keyword = codes "LegacyConvertedEnhancedMRImageStorage"; is_image = true }
    ∷ record { uid = codes "1.2.840.10008.5.1.4.1.1.5"; keyword = codes "NuclearMedicineImageStorageRetired"; is_image = true }
    ∷ record { uid = codes "1.2.840.10008.5.1.4.1.1.6"; keyword = codes "UltrasoundImageStorageRetired"; is_image = true }
    ∷ record { uid = codes "1.2.840.10008.5.1.4.1.1.6.1"; keyword = codes "UltrasoundImageStorage"; is_image = true }
    ∷ record { uid = codes "1.2.840.10008.5.1.4.1.1.6.2"; keyword = codes "EnhancedUSVolumeStorage"; is_image = true }
    ∷ record { uid = codes "1.2.840.10008.5.1.4.1.1.7"; keyword = codes "SecondaryCaptureImageStorage"; is_image = true }
    ∷ record { uid = codes "1.2.840.10008.5.1.4.1.1.7.1"; keyword = codes "MultiFrameSingleBitSecondaryCaptureImageStorage"; is_image = true }
    ∷ record { uid = codes "1.2.840.10008.5.1.4.1.1.7.2"; keyword = codes "MultiFrameGrayscaleByteSecondaryCaptureImageStorage"; is_image = true }
    ∷ record { uid = codes "1.2.840.10008.5.1.4.1.1.7.3"; keyword = codes "MultiFrameGrayscaleWordSecondaryCaptureImageStorage"; is_image = true }
    ∷ []

-- rows 29 to 42 of the table of storage classes
unfoldable pub part_2 : List StorageRow
part_2 =
    record { uid = codes "1.2.840.10008.5.1.4.1.1.7.4"; keyword = codes "MultiFrameTrueColorSecondaryCaptureImageStorage"; is_image = true }
    ∷ record { uid = codes "1.2.840.10008.5.1.4.1.1.8"; keyword = codes "StandaloneOverlayStorage"; is_image = false }
    ∷ record { uid = codes "1.2.840.10008.5.1.4.1.1.9"; keyword = codes "StandaloneCurveStorage"; is_image = false }
    ∷ record { uid = codes "1.2.840.10008.5.1.4.1.1.9.1"; keyword = codes "WaveformStorageTrial"; is_image = false }
    ∷ record { uid = codes "1.2.840.10008.5.1.4.1.1.9.1.1"; keyword = codes "TwelveLeadECGWaveformStorage"; is_image = false }
    ∷ record { uid = codes "1.2.840.10008.5.1.4.1.1.9.1.2"; keyword = codes "GeneralECGWaveformStorage"; is_image = false }
    ∷ record { uid = codes "1.2.840.10008.5.1.4.1.1.9.1.3"; keyword = codes "AmbulatoryECGWaveformStorage"; is_image = false }
    ∷ record { uid = codes "1.2.840.10008.5.1.4.1.1.9.2.1"; keyword = codes "HemodynamicWaveformStorage"; is_image = false }
    ∷ record { uid = codes "1.2.840.10008.5.1.4.1.1.9.3.1"; keyword = codes "CardiacElectrophysiologyWaveformStorage"; is_image = false }
    ∷ record { uid = codes "1.2.840.10008.5.1.4.1.1.9.4.1"; keyword = codes "BasicVoiceAudioWaveformStorage"; is_image = false }
    ∷ record { uid = codes "1.2.840.10008.5.1.4.1.1.9.4.2"; keyword = codes "GeneralAudioWaveformStorage"; is_image = false }
    ∷ record { uid = codes "1.2.840.10008.5.1.4.1.1.9.5.1"; keyword = codes "ArterialPulseWaveformStorage"; is_image = false }
    ∷ record { uid = codes "1.2.840.10008.5.1.4.1.1.9.6.1"; keyword = codes "RespiratoryWaveformStorage"; is_image = false }
    ∷ record { uid = codes "1.2.840.10008.5.1.4.1.1.9.6.2"; keyword = codes "MultichannelRespiratoryWaveformStorage"; is_image = false }
    ∷ []

-- rows 43 to 56 of the table of storage classes
unfoldable pub part_3 : List StorageRow
part_3 =
    record { uid = codes "1.2.840.10008.5.1.4.1.1.9.7.1"; keyword = codes "RoutineScalpElectroencephalogramWaveformStorage"; is_image = false }
    ∷ record { uid = codes "1.2.840.10008.5.1.4.1.1.9.7.2"; keyword = codes "ElectromyogramWaveformStorage"; is_image = false }
    ∷ record { uid = codes "1.2.840.10008.5.1.4.1.1.9.7.3"; keyword = codes "ElectrooculogramWaveformStorage"; is_image = false }
    ∷ record { uid = codes "1.2.840.10008.5.1.4.1.1.9.7.4"; keyword = codes "SleepElectroencephalogramWaveformStorage"; is_image = false }
    ∷ record { uid = codes "1.2.840.10008.5.1.4.1.1.9.8.1"; keyword = codes "BodyPositionWaveformStorage"; is_image = false }
    ∷ record { uid = codes "1.2.840.10008.5.1.4.1.1.10"; keyword = codes "StandaloneModalityLUTStorage"; is_image = false }
    ∷ record { uid = codes "1.2.840.10008.5.1.4.1.1.11"; keyword = codes "StandaloneVOILUTStorage"; is_image = false }
    ∷ record { uid = codes "1.2.840.10008.5.1.4.1.1.11.1"; keyword = codes "GrayscaleSoftcopyPresentationStateStorage"; is_image = false }
    ∷ record { uid = codes "1.2.840.10008.5.1.4.1.1.11.2"; keyword = codes "ColorSoftcopyPresentationStateStorage"; is_image = false }
    ∷ record { uid = codes "1.2.840.10008.5.1.4.1.1.11.3"; keyword = codes "PseudoColorSoftcopyPresentationStateStorage"; is_image = false }
    ∷ record { uid = codes "1.2.840.10008.5.1.4.1.1.11.4"; keyword = codes "BlendingSoftcopyPresentationStateStorage"; is_image = false }
    ∷ record { uid = codes "1.2.840.10008.5.1.4.1.1.11.5"; keyword = codes "XAXRFGrayscaleSoftcopyPresentationStateStorage"; is_image = false }
    ∷ record { uid = codes "1.2.840.10008.5.1.4.1.1.11.6"; keyword = codes "GrayscalePlanarMPRVolumetricPresentationStateStorage"; is_image = false }
    ∷ record { uid = codes "1.2.840.10008.5.1.4.1.1.11.7"; keyword = codes "CompositingPlanarMPRVolumetricPresentationStateStorage"; is_image = false }
    ∷ []

-- rows 57 to 70 of the table of storage classes
unfoldable pub part_4 : List StorageRow
part_4 =
    record { uid = codes "1.2.840.10008.5.1.4.1.1.11.8"; keyword = codes "AdvancedBlendingPresentationStateStorage"; is_image = false }
    ∷ record { uid = codes "1.2.840.10008.5.1.4.1.1.11.9"; keyword = codes "VolumeRenderingVolumetricPresentationStateStorage"; is_image = false }
    ∷ record { uid = codes "1.2.840.10008.5.1.4.1.1.11.10"; keyword = codes "SegmentedVolumeRenderingVolumetricPresentationStateStorage"; is_image = false }
    ∷ record { uid = codes "1.2.840.10008.5.1.4.1.1.11.11"; keyword = codes "MultipleVolumeRenderingVolumetricPresentationStateStorage"; is_image = false }
    ∷ record { uid = codes "1.2.840.10008.5.1.4.1.1.12.1"; keyword = codes "XRayAngiographicImageStorage"; is_image = true }
    ∷ record { uid = codes "1.2.840.10008.5.1.4.1.1.12.1.1"; keyword = codes "EnhancedXAImageStorage"; is_image = true }
    ∷ record { uid = codes "1.2.840.10008.5.1.4.1.1.12.2"; keyword = codes "XRayRadiofluoroscopicImageStorage"; is_image = true }
    ∷ record { uid = codes "1.2.840.10008.5.1.4.1.1.12.2.1"; keyword = codes "EnhancedXRFImageStorage"; is_image = true }
    ∷ record { uid = codes "1.2.840.10008.5.1.4.1.1.12.3"; keyword = codes "XRayAngiographicBiPlaneImageStorage"; is_image = true }
    ∷ record { uid = codes "1.2.840.10008.5.1.4.1.1.13.1.1"; keyword = codes "XRay3DAngiographicImageStorage"; is_image = true }
    ∷ record { uid = codes "1.2.840.10008.5.1.4.1.1.13.1.2"; keyword = codes "XRay3DCraniofacialImageStorage"; is_image = true }
    ∷ record { uid = codes "1.2.840.10008.5.1.4.1.1.13.1.3"; keyword = codes "BreastTomosynthesisImageStorage"; is_image = true }
    ∷ record { uid = codes "1.2.840.10008.5.1.4.1.1.13.1.4"; keyword = codes "BreastProjectionXRayImageStorageForPresentation"; is_image = true }
    ∷ record { uid = codes "1.2.840.10008.5.1.4.1.1.13.1.5"; keyword = codes "BreastProjectionXRayImageStorageForProcessing"; is_image = true }
    ∷ []

-- rows 71 to 84 of the table of storage classes
unfoldable pub part_5 : List StorageRow
part_5 =
    record { uid = codes "1.2.840.10008.5.1.4.1.1.14.1"; keyword = codes "IntravascularOpticalCoherenceTomographyImageStorageForPresentation"; is_image = true }
    ∷ record { uid = codes "1.2.840.10008.5.1.4.1.1.14.2"; keyword = codes "IntravascularOpticalCoherenceTomographyImageStorageForProcessing"; is_image = true }
    ∷ record { uid = codes "1.2.840.10008.5.1.4.1.1.20"; keyword = codes "NuclearMedicineImageStorage"; is_image = true }
    ∷ record { uid = codes "1.2.840.10008.5.1.4.1.1.30"; keyword = codes "ParametricMapStorage"; is_image = true }
    ∷ record { uid = codes "1.2.840.10008.5.1.4.1.1.66"; keyword = codes "RawDataStorage"; is_image = false }
    ∷ record { uid = codes "1.2.840.10008.5.1.4.1.1.66.1"; keyword = codes "SpatialRegistrationStorage"; is_image = false }
    ∷ record { uid = codes "1.2.840.10008.5.1.4.1.1.66.2"; keyword = codes "SpatialFiducialsStorage"; is_image = false }
    ∷ record { uid = codes "1.2.840.10008.5.1.4.1.1.66.3"; keyword = codes "DeformableSpatialRegistrationStorage"; is_image = false }
    ∷ record { uid = codes "1.2.840.10008.5.1.4.1.1.66.4"; keyword = codes "SegmentationStorage"; is_image = true }
    ∷ record { uid = codes "1.2.840.10008.5.1.4.1.1.66.5"; keyword = codes "SurfaceSegmentationStorage"; is_image = false }
    ∷ record { uid = codes "1.2.840.10008.5.1.4.1.1.66.6"; keyword = codes "TractographyResultsStorage"; is_image = false }
    ∷ record { uid = codes "1.2.840.10008.5.1.4.1.1.67"; keyword = codes "RealWorldValueMappingStorage"; is_image = false }
    ∷ record { uid = codes "1.2.840.10008.5.1.4.1.1.68.1"; keyword = codes "SurfaceScanMeshStorage"; is_image = false }
    ∷ record { uid = codes "1.2.840.10008.5.1.4.1.1.68.2"; keyword = codes "SurfaceScanPointCloudStorage"; is_image = false }
    ∷ []

-- rows 85 to 98 of the table of storage classes
unfoldable pub part_6 : List StorageRow
part_6 =
    record { uid = codes "1.2.840.10008.5.1.4.1.1.77.1"; keyword = codes "VLImageStorageTrial"; is_image = true }
    ∷ record { uid = codes "1.2.840.10008.5.1.4.1.1.77.1.1"; keyword = codes "VLEndoscopicImageStorage"; is_image = true }
    ∷ record { uid = codes "1.2.840.10008.5.1.4.1.1.77.1.1.1"; keyword = codes "VideoEndoscopicImageStorage"; is_image = true }
    ∷ record { uid = codes "1.2.840.10008.5.1.4.1.1.77.1.2"; keyword = codes "VLMicroscopicImageStorage"; is_image = true }
    ∷ record { uid = codes "1.2.840.10008.5.1.4.1.1.77.1.2.1"; keyword = codes "VideoMicroscopicImageStorage"; is_image = true }
    ∷ record { uid = codes "1.2.840.10008.5.1.4.1.1.77.1.3"; keyword = codes "VLSlideCoordinatesMicroscopicImageStorage"; is_image = true }
    ∷ record { uid = codes "1.2.840.10008.5.1.4.1.1.77.1.4"; keyword = codes "VLPhotographicImageStorage"; is_image = true }
    ∷ record { uid = codes "1.2.840.10008.5.1.4.1.1.77.1.4.1"; keyword = codes "VideoPhotographicImageStorage"; is_image = true }
    ∷ record { uid = codes "1.2.840.10008.5.1.4.1.1.77.1.5.1"; keyword = codes "OphthalmicPhotography8BitImageStorage"; is_image = true }
    ∷ record { uid = codes "1.2.840.10008.5.1.4.1.1.77.1.5.2"; keyword = codes "OphthalmicPhotography16BitImageStorage"; is_image = true }
    ∷ record { uid = codes "1.2.840.10008.5.1.4.1.1.77.1.5.3"; keyword = codes "StereometricRelationshipStorage"; is_image = false }
    ∷ record { uid = codes "1.2.840.10008.5.1.4.1.1.77.1.5.4"; keyword = codes "OphthalmicTomographyImageStorage"; is_image = true }
    ∷ record { uid = codes "1.2.840.10008.5.1.4.1.1.77.1.5.5"; keyword = codes "WideFieldOphthalmicPhotographyStereographicProjectionImageStorage"; is_image = true }
    ∷ record { uid = codes "1.2.840.10008.5.1.4.1.1.77.1.5.6"; keyword = codes "WideFieldOphthalmicPhotography3DCoordinatesImageStorage"; is_image = true }
    ∷ []

-- rows 99 to 112 of the table of storage classes
unfoldable pub part_7 : List StorageRow
part_7 =
    record { uid = codes "1.2.840.10008.5.1.4.1.1.77.1.5.7"; keyword = codes "OphthalmicOpticalCoherenceTomographyEnFaceImageStorage"; is_image = true }
    ∷ record { uid = codes "1.2.840.10008.5.1.4.1.1.77.1.5.8"; keyword = codes "OphthalmicOpticalCoherenceTomographyBscanVolumeAnalysisStorage"; is_image = true }
    ∷ record { uid = codes "1.2.840.10008.5.1.4.1.1.77.1.6"; keyword = codes "VLWholeSlideMicroscopyImageStorage"; is_image = true }
    ∷ record { uid = codes "1.2.840.10008.5.1.4.1.1.77.1.7"; keyword = codes "DermoscopicPhotographyImageStorage"; is_image = true }
    ∷ record { uid = codes "1.2.840.10008.5.1.4.1.1.77.2"; keyword = codes "VLMultiFrameImageStorageTrial"; is_image = true }
    ∷ record { uid = codes "1.2.840.10008.5.1.4.1.1.78.1"; keyword = codes "LensometryMeasurementsStorage"; is_image = false }
    ∷ record { uid = codes "1.2.840.10008.5.1.4.1.1.78.2"; keyword = codes "AutorefractionMeasurementsStorage"; is_image = false }
    ∷ record { uid = codes "1.2.840.10008.5.1.4.1.1.78.3"; keyword = codes "KeratometryMeasurementsStorage"; is_image = false }
    ∷ record { uid = codes "1.2.840.10008.5.1.4.1.1.78.4"; keyword = codes "SubjectiveRefractionMeasurementsStorage"; is_image = false }
    ∷ record { uid = codes "1.2.840.10008.5.1.4.1.1.78.5"; keyword = codes "VisualAcuityMeasurementsStorage"; is_image = false }
    ∷ record { uid = codes "1.2.840.10008.5.1.4.1.1.78.6"; keyword = codes "SpectaclePrescriptionReportStorage"; is_image = false }
    ∷ record { uid = codes "1.2.840.10008.5.1.4.1.1.78.7"; keyword = codes "OphthalmicAxialMeasurementsStorage"; is_image = false }
    ∷ record { uid = codes "1.2.840.10008.5.1.4.1.1.78.8"; keyword = codes "IntraocularLensCalculationsStorage"; is_image = false }
    ∷ record { uid = codes "1.2.840.10008.5.1.4.1.1.79.1"; keyword = codes "MacularGridThicknessAndVolumeReportStorage"; is_image = false }
    ∷ []

-- rows 113 to 126 of the table of storage classes
unfoldable pub part_8 : List StorageRow
part_8 =
    record { uid = codes "1.2.840.10008.5.1.4.1.1.80.1"; keyword = codes "OphthalmicVisualFieldStaticPerimetryMeasurementsStorage"; is_image = false }
    ∷ record { uid = codes "1.2.840.10008.5.1.4.1.1.81.1"; keyword = codes "OphthalmicThicknessMapStorage"; is_image = true }
    ∷ record { uid = codes "1.2.840.10008.5.1.4.1.1.82.1"; keyword = codes "CornealTopographyMapStorage"; is_image = true }
    ∷ record { uid = codes "1.2.840.10008.5.1.4.1.1.88.1"; keyword = codes "TextSRStorageTrial"; is_image = false }
    ∷ record { uid = codes "1.2.840.10008.5.1.4.1.1.88.2"; keyword = codes "AudioSRStorageTrial"; is_image = false }
    ∷ record { uid = codes "1.2.840.10008.5.1.4.1.1.88.3"; keyword = codes "DetailSRStorageTrial"; is_image = false }
    ∷ record { uid = codes "1.2.840.10008.5.1.4.1.1.88.4"; keyword = codes "ComprehensiveSRStorageTrial"; is_image = false }
    ∷ record { uid = codes "1.2.840.10008.5.1.4.1.1.88.11"; keyword = codes "BasicTextSRStorage"; is_image = false }
    ∷ record { uid = codes "1.2.840.10008.5.1.4.1.1.88.22"; keyword = codes "EnhancedSRStorage"; is_image = false }
    ∷ record { uid = codes "1.2.840.10008.5.1.4.1.1.88.33"; keyword = codes "ComprehensiveSRStorage"; is_image = false }
    ∷ record { uid = codes "1.2.840.10008.5.1.4.1.1.88.34"; keyword = codes "Comprehensive3DSRStorage"; is_image = false }
    ∷ record { uid = codes "1.2.840.10008.5.1.4.1.1.88.35"; keyword = codes "ExtensibleSRStorage"; is_image = false }
    ∷ record { uid = codes "1.2.840.10008.5.1.4.1.1.88.40"; keyword = codes "ProcedureLogStorage"; is_image = false }
    ∷ record { uid = codes "1.2.840.10008.5.1.4.1.1.88.50"; keyword = codes "MammographyCADSRStorage"; is_image = false }
    ∷ []

-- rows 127 to 140 of the table of storage classes
unfoldable pub part_9 : List StorageRow
part_9 =
    record { uid = codes "1.2.840.10008.5.1.4.1.1.88.59"; keyword = codes "KeyObjectSelectionDocumentStorage"; is_image = false }
    ∷ record { uid = codes "1.2.840.10008.5.1.4.1.1.88.65"; keyword = codes "ChestCADSRStorage"; is_image = false }
    ∷ record { uid = codes "1.2.840.10008.5.1.4.1.1.88.67"; keyword = codes "XRayRadiationDoseSRStorage"; is_image = false }
    ∷ record { uid = codes "1.2.840.10008.5.1.4.1.1.88.68"; keyword = codes "RadiopharmaceuticalRadiationDoseSRStorage"; is_image = false }
    ∷ record { uid = codes "1.2.840.10008.5.1.4.1.1.88.69"; keyword = codes "ColonCADSRStorage"; is_image = false }
    ∷ record { uid = codes "1.2.840.10008.5.1.4.1.1.88.70"; keyword = codes "ImplantationPlanSRStorage"; is_image = false }
    ∷ record { uid = codes "1.2.840.10008.5.1.4.1.1.88.71"; keyword = codes "AcquisitionContextSRStorage"; is_image = false }
    ∷ record { uid = codes "1.2.840.10008.5.1.4.1.1.88.72"; keyword = codes "SimplifiedAdultEchoSRStorage"; is_image = false }
    ∷ record { uid = codes "1.2.840.10008.5.1.4.1.1.88.73"; keyword = codes "PatientRadiationDoseSRStorage"; is_image = false }
    ∷ record { uid = codes "1.2.840.10008.5.1.4.1.1.88.74"; keyword = codes "PlannedImagingAgentAdministrationSRStorage"; is_image = false }
    ∷ record { uid = codes "1.2.840.10008.5.1.4.1.1.88.75"; keyword = codes "PerformedImagingAgentAdministrationSRStorage"; is_image = false }
    ∷ record { uid = codes "1.2.840.10008.5.1.4.1.1.88.76"; keyword = codes "EnhancedXRayRadiationDoseSRStorage"; is_image = false }
    ∷ record { uid = codes "1.2.840.10008.5.1.4.1.1.90.1"; keyword = codes "ContentAssessmentResultsStorage"; is_image = false }
    ∷ record { uid = codes "1.2.840.10008.5.1.4.1.1.91.1"; keyword = codes "MicroscopyBulkSimpleAnnotationsStorage"; is_image = false }
    ∷ []

-- rows 141 to 154 of the table of storage classes
unfoldable pub part_10 : List StorageRow
part_10 =
    record { uid = codes "1.2.840.10008.5.1.4.1.1.104.1"; keyword = codes "EncapsulatedPDFStorage"; is_image = false }
    ∷ record { uid = codes "1.2.840.10008.5.1.4.1.1.104.2"; keyword = codes "EncapsulatedCDAStorage"; is_image = false }
    ∷ record { uid = codes "1.2.840.10008.5.1.4.1.1.104.3"; keyword = codes "EncapsulatedSTLStorage"; is_image = false }
    ∷ record { uid = codes "1.2.840.10008.5.1.4.1.1.104.4"; keyword = codes "EncapsulatedOBJStorage"; is_image = false }
    ∷ record { uid = codes "1.2.840.10008.5.1.4.1.1.104.5"; keyword = codes "EncapsulatedMTLStorage"; is_image = false }
    ∷ record { uid = codes "1.2.840.10008.5.1.4.1.1.128"; keyword = codes "PositronEmissionTomographyImageStorage"; is_image = true }
    ∷ record { uid = codes "1.2.840.10008.5.1.4.1.1.128.1"; keyword = codes "LegacyConvertedEnhancedPETImageStorage"; is_image = true }
    ∷ record { uid = codes "1.2.840.10008.5.1.4.1.1.129"; keyword = codes "StandalonePETCurveStorage"; is_image = false }
    ∷ record { uid = codes "1.2.840.10008.5.1.4.1.1.130"; keyword = codes "EnhancedPETImageStorage"; is_image = true }
    ∷ record { uid = codes "1.2.840.10008.5.1.4.1.1.131"; keyword = codes "BasicStructuredDisplayStorage"; is_image = false }
    ∷ record { uid = codes "1.2.840.10008.5.1.4.1.1.200.2"; keyword = codes "CTPerformedProcedureProtocolStorage"; is_image = false }
    ∷ record { uid = codes "1.2.840.10008.5.1.4.1.1.200.8"; keyword = codes "XAPerformedProcedureProtocolStorage"; is_image = false }
    ∷ record { uid = codes "1.2.840.10008.5.1.4.1.1.481.1"; keyword = codes "RTImageStorage"; is_image = true }
    ∷ record { uid = codes "1.2.840.10008.5.1.4.1.1.481.2"; keyword = codes "RTDoseStorage"; is_image = false }
    ∷ []

-- rows 155 to 168 of the table of storage classes
unfoldable pub part_11 : List StorageRow
part_11 =
    record { uid = codes "1.2.840.10008.5.1.4.1.1.481.3"; keyword = codes "RTStructureSetStorage"; is_image = false }
    ∷ record { uid = codes "1.2.840.10008.5.1.4.1.1.481.4"; keyword = codes "RTBeamsTreatmentRecordStorage"; is_image = false }
    ∷ record { uid = codes "1.2.840.10008.5.1.4.1.1.481.5"; keyword = codes "RTPlanStorage"; is_image = false }
    ∷ record { uid = codes "1.2.840.10008.5.1.4.1.1.481.6"; keyword = codes "RTBrachyTreatmentRecordStorage"; is_image = false }
    ∷ record { uid = codes "1.2.840.10008.5.1.4.1.1.481.7"; keyword = codes "RTTreatmentSummaryRecordStorage"; is_image = false }
    ∷ record { uid = codes "1.2.840.10008.5.1.4.1.1.481.8"; keyword = codes "RTIonPlanStorage"; is_image = false }
    ∷ record { uid = codes "1.2.840.10008.5.1.4.1.1.481.9"; keyword = codes "RTIonBeamsTreatmentRecordStorage"; is_image = false }
    ∷ record { uid = codes "1.2.840.10008.5.1.4.1.1.481.10"; keyword = codes "RTPhysicianIntentStorage"; is_image = false }
    ∷ record { uid = codes "1.2.840.10008.5.1.4.1.1.481.11"; keyword = codes "RTSegmentAnnotationStorage"; is_image = false }
    ∷ record { uid = codes "1.2.840.10008.5.1.4.1.1.481.12"; keyword = codes "RTRadiationSetStorage"; is_image = false }
    ∷ record { uid = codes "1.2.840.10008.5.1.4.1.1.481.13"; keyword = codes "CArmPhotonElectronRadiationStorage"; is_image = false }
    ∷ record { uid = codes "1.2.840.10008.5.1.4.1.1.481.14"; keyword = codes "TomotherapeuticRadiationStorage"; is_image = false }
    ∷ record { uid = codes "1.2.840.10008.5.1.4.1.1.481.15"; keyword = codes "RoboticArmRadiationStorage"; is_image = false }
    ∷ record { uid = codes "1.2.840.10008.5.1.4.1.1.481.16"; keyword = codes "RTRadiationRecordSetStorage"; is_image = false }
    ∷ []

-- rows 169 to 177 of the table of storage classes
unfoldable pub part_12 : List StorageRow
part_12 =
    record { uid = codes "1.2.840.10008.5.1.4.1.1.481.17"; keyword = codes "RTRadiationSalvageRecordStorage"; is_image = false }
    ∷ record { uid = codes "1.2.840.10008.5.1.4.1.1.481.18"; keyword = codes "TomotherapeuticRadiationRecordStorage"; is_image = false }
    ∷ record { uid = codes "1.2.840.10008.5.1.4.1.1.481.19"; keyword = codes "CArmPhotonElectronRadiationRecordStorage"; is_image = false }
    ∷ record { uid = codes "1.2.840.10008.5.1.4.1.1.481.20"; keyword = codes "RoboticRadiationRecordStorage"; is_image = false }
    ∷ record { uid = codes "1.2.840.10008.5.1.4.1.1.481.21"; keyword = codes "RTRadiationSetDeliveryInstructionStorage"; is_image = false }
    ∷ record { uid = codes "1.2.840.10008.5.1.4.1.1.481.22"; keyword = codes "RTTreatmentPreparationStorage"; is_image = false }
    ∷ record { uid = codes "1.2.840.10008.5.1.4.34.1"; keyword = codes "RTBeamsDeliveryInstructionStorageTrial"; is_image = false }
    ∷ record { uid = codes "1.2.840.10008.5.1.4.34.7"; keyword = codes "RTBeamsDeliveryInstructionStorage"; is_image = false }
    ∷ record { uid = codes "1.2.840.10008.5.1.4.34.10"; keyword = codes "RTBrachyApplicationSetupDeliveryInstructionStorage"; is_image = false }
    ∷ []

-- the parts of the table, in order
-- e.g. length parts ≡ 13
abbrev pub parts : List (List StorageRow)
parts = part_0 ∷ part_1 ∷ part_2 ∷ part_3 ∷ part_4 ∷ part_5 ∷ part_6 ∷ part_7 ∷ part_8 ∷ part_9 ∷ part_10 ∷ part_11 ∷ part_12 ∷ []

-- the table, by the numbers of the identifiers (law `dictionary::storage_classes_are_few`)
abbrev pub storage_classes : List StorageRow
storage_classes = flat_map (λ rows. rows) parts
